-- What a step comes to; the steps `#raw` and `#link`.
use Rattle.std.specs.Prelude.{◌≡◌, Bool, true, false, not, ℕ, ◌+◌, ◌-◌, ◌≤◌, ◌<◌, ltb, length, take, drop, Option, Some, None, Result, Ok, Err, IfOk, MatchResult}
use Rattle.std.proofs.Math.Path.{refl, sym, ap}
use Rattle.std.proofs.Common.{◌∙◌, arith, drop-drop, length-drop}
use Rattle.std.proofs.lemmas.Result.{IfOk-weaker}
use mathlib.Core.List.{List, ◌++◌}
use Rattle.std.proofs.Math.Seq.{take-append-add}
use Rattle.refusal.specs.declared.Refusal.{Refusal}
use Rattle.rules.specs.Reader.{Reader, empty, prefix, skip, ret, if_r, ◌>>=◌, ◌>>◌}
use Rattle.rules.specs.Bytes.{line_blank}
use Rattle.rules.specs.Run.{ok, put, Did}
use Rattle.rules.specs.Sheet.{Records}
use Rattle.rules.specs.Expansion.{Call, hands_back, refuses, outputs, call_did, calling, call_step, writes}
use Rattle.scan.specs.Sets.{part, Spans, Sees, Starts, byte_is}
use Rattle.scan.specs.Laws.{sees-the, not_end, skips-at, prefix-split, tail-part}
use Rattle.buffers.specs.declared.writer.Writer.{Writer}
use Rattle.refusal.specs.Numbers.{number}
use Rattle.scan.specs.declared.read.Read.{Read}
use Rattle.buffers.specs.Wrote.{Puts, Wrote, puts-wrote, wrote-ok, wrote-err}
use Rattle.calls.specs.declared.Output.{Output}
use Rattle.calls.specs.Called.{Says, Calls, call-refused}

-- The step d, in the text t: reading goes on behind what k says, at least n bytes; is it whole.
pub record Goes (n : ℕ) (d : Did Records × List ℕ) (t : List ℕ) (k : Read Bool) : Type 0 where
  pub on : n ≤ k.used
  pub inside : k.used ≤ length t
  pub rest : d.1 ≡ drop k.used t
  pub whole : d.0.whole ≡ k.what

-- What the step d of the records s, in the text t, comes to: what it writes, and where reading goes on; or it is refused. The records stay.
pub record Does (n : ℕ) (d : Did Records × List ℕ) (s : Records) (t : List ℕ) (w w₂ : Writer) (r : Result (Read Bool) Refusal) : Type 0 where
  pub wrote : Wrote d.0.emit w w₂ r
  pub state : d.0.state ≡ s
  pub goes : IfOk r (Goes n d t)

-- A text is output, and the step is k.
pub record Shows (v : List ℕ) (k : Read Bool) (w w₂ : Writer) (r : Result (Read Bool) Refusal) : Type 0 where
  pub puts : Puts v w w₂ r
  pub goes : IfOk r (λ s. s ≡ k)

-- The end of a call whose `(` stands at i in t, and that read k bytes behind it: handed back, what stands before the `(` is output.
unfoldable pub Ends : Option Output → ℕ → List ℕ → ℕ → Writer → Writer → Result (Read Bool) Refusal → Type 0
Ends None k t i w w₂ r = Shows (take i t) (record { what = ltb (i + 1 + k) (length t); used = i }) w w₂ r
Ends (Some o) k t i w w₂ r = (w₂ ≡ w) × MatchResult o.put (λ _. r ≡ Ok (record { what = o.whole; used = i + 1 + k })) (λ e. r ≡ Err e)

-- LAWS. A call of which an output was put, or had no room.
module _ (o : Output) (k : ℕ) (t : List ℕ) (i : ℕ) (w : Writer) where
  pub ends-put : {u : Unit {0}} → o.put ≡ Ok u → Ends (Some o) k t i w w (Ok (record { what = o.whole; used = i + 1 + k }))
  unfolding Ends
  ends-put e = rw e (refl, refl)

  pub ends-no : {e : Refusal} → o.put ≡ Err e → {r : Result (Read Bool) Refusal} → r ≡ Err e → Ends (Some o) k t i w w r
  unfolding Ends
  ends-no e y = rw (e, y) (refl, refl)

-- A step that outputs a text and goes on behind k bytes.
module _ {n : ℕ} {d : Did Records × List ℕ} {s : Records} {t v : List ℕ} {k : ℕ} {w w₂ : Writer} {r : Result (Read Bool) Refusal} where
  does-shown : n ≤ k → k ≤ length t → d ≡ (writes s v, drop k t) → Shows v (record { what = true; used = k }) w w₂ r → Does n d s t w w₂ r
  unfolding writes
  does-shown l i e S = rw e (record {
    wrote = puts-wrote S.puts;
    state = refl;
    goes = IfOk-weaker r _ _ (λ x z. rw z (record { on = l; inside = i; rest = refl; whole = refl })) S.goes;
  })

-- What a call does keeps the records.
call_state : (s : Records) (v : List ℕ) (c : Call) (u t : List ℕ) → (call_did s v c u t).0.state ≡ s
unfolding call_did
call_state s v hands_back u t = refl
call_state s v (refuses k) u t = refl
call_state s v (outputs x o) u t = refl

-- The end of a call that read k bytes behind the `(` at i.
module _ {n : ℕ} (s : Records) {t : List ℕ} {i : ℕ} (l : n ≤ i) (h : i < length t) {k : ℕ} (g : k ≤ length (drop (i + 1) t)) (w w₁ w₂ : Writer) (r : Result (Read Bool) Refusal) where
  ended-output : (x : Bool) (o : List ℕ) (q : Result (Unit {0}) Refusal) → Wrote (put o ok) w w₁ q → Ends (Some (record { whole = x; put = q })) k t i w₁ w₂ r → Does n (call_did s (take i t) (outputs x o) (drop k (drop (i + 1) t)) (drop i t)) s t w w₂ r
  unfolding call_did Ends
  ended-output x o (Ok u) W E = let F : (w₂ ≡ w₁) × (r ≡ Ok (record { what = x; used = i + 1 + k })) = E in rw (F.0, F.1) (record { wrote = wrote-ok refl W; state = refl; goes = record { on = omega arith; inside = omega (arith, length-drop (i + 1) t); rest = drop-drop k (i + 1) t; whole = refl } })
  ended-output x o (Err e) W E = let F : (w₂ ≡ w₁) × (r ≡ Err e) = E in rw (F.0, F.1) (record { wrote = wrote-err refl W refl; state = refl; goes = tt })

  ended : (c : Call × List ℕ) (a : Option Output) → Says c (drop (i + 1) t) w w₁ k a → Ends a k t i w₁ w₂ r → Does n (call_did s (take i t) c.0 c.1 (drop i t)) s t w w₂ r
  unfolding Says call_did Ends
  ended c None (e, f) S = rw e (record {
    wrote = puts-wrote (rw f at S.puts);
    state = refl;
    goes = IfOk-weaker r _ _ (λ x z. rw z (record { on = l; inside = omega arith; rest = refl; whole = ap (λ z. not (empty z)) (drop-drop k (i + 1) t) ∙ not_end t (i + 1 + k) })) S.goes;
  })
  ended c (Some a) (o, e, W) E = rw e (ended-output a.whole o a.put W E)

-- A call that is read from behind the `(` at i ends in the text.
pub call-inside : (c : Call × List ℕ) (t : List ℕ) (i : ℕ) (w w₁ : Writer) (k : Read (Option Output)) → Calls c (part t (i + 1) (length t)) w w₁ (Ok k) → i < length t → i + 1 + k.used ≤ length t
unfolding Calls
call-inside c t i w w₁ k K h =
    let R : (k.used ≤ length (drop (i + 1) t)) × Says c (drop (i + 1) t) w w₁ k.used k.what = rw (tail-part t (i + 1)) at K in
    omega (arith, R.0, length-drop (i + 1) t, h)

-- A mark and what stands behind it.
pub mark-part : (m t : List ℕ) (i : ℕ) → prefix m t ≡ true → length m ≤ i → take i t ≡ m ++ part t (length m) i
mark-part m t i h k =
    let n = i - length m in
    let z : i ≡ length m + n = omega arith in
    ap (λ x. take x t) z ∙ ap (take (length m + n)) (prefix-split m t h) ∙ take-append-add m (drop (length m) t) n

-- The ways through a call's step. m: its mark, at the start of t; call: how it is read.
module _ (m : List ℕ) (call : Reader Call) (s : Records) {t : List ℕ} (M : Starts m t 0 true) {i : ℕ} (L : Spans line_blank t (length m) i) {f : Bool} (q : Sees (byte_is 40) t i f) where
  pub step-plain : f ≡ false → {w w₂ : Writer} {r : Result (Read Bool) Refusal} → Shows (take i t) (record { what = true; used = i }) w w₂ r → Does (length m) (call_step m call s (drop (length m) t)) s t w w₂ r
  unfolding call_step ◌>>=◌ if_r ret
  step-plain e S = does-shown L.on L.inside (rw (L.rest, (sees-the "(" q e).says, L.took, sym (mark-part m t i M.says L.on)) refl) S

  module _ (e : f ≡ true) where
    at_paren : call_step m call s (drop (length m) t) ≡ call_did s (take i t) (call (skip (drop i t)).1).0 (call (skip (drop i t)).1).1 (drop i t)
    unfolding call_step calling ◌>>=◌ ◌>>◌ if_r
    at_paren = rw (L.rest, (sees-the "(" q e).says, L.took, sym (mark-part m t i M.says L.on)) refl

    reads : call_step m call s (drop (length m) t) ≡ call_did s (take i t) (call (drop (i + 1) t)).0 (call (drop (i + 1) t)).1 (drop i t)
    reads = at_paren ∙ ap (λ u. call_did s (take i t) (call u).0 (call u).1 (drop i t)) (skips-at t i (q.there e)).rest

    module _ (w w₁ : Writer) {a : Result (Read (Option Output)) Refusal} (K : Calls (call (part t (i + 1) (length t))) (part t (i + 1) (length t)) w w₁ a) where
      pub step-refused : {j : Refusal} → a ≡ Err j → {r : Result (Read Bool) Refusal} → r ≡ Err j → Does (length m) (call_step m call s (drop (length m) t)) s t w w₁ r
      unfolding Calls
      step-refused {j} x {r} y =
          let R : ((call (drop (i + 1) t)).0 ≡ refuses (number j)) × (w₁ ≡ w) = rw (x, tail-part t (i + 1)) at K in
          rw reads (record { wrote = rw R.1 (call-refused s (take i t) _ _ w R.0 y); state = call_state s (take i t) _ _ _; goes = rw y tt })

      pub step-ended : {k : Read (Option Output)} → a ≡ Ok k → {w₂ : Writer} {r : Result (Read Bool) Refusal} → Ends k.what k.used t i w₁ w₂ r → Does (length m) (call_step m call s (drop (length m) t)) s t w w₂ r
      unfolding Calls
      step-ended {k} x {w₂} {r} E =
          let R : (k.used ≤ length (drop (i + 1) t)) × Says (call (drop (i + 1) t)) (drop (i + 1) t) w w₁ k.used k.what = rw (x, tail-part t (i + 1)) at K in
          rw reads (ended s L.on (q.there e) R.0 w w₁ w₂ r _ k.what R.1 E)
