-- What holds of a sheet, and is kept by a binding, holds of the sheet that an accepted run leaves.
use Rattle.std.specs.Prelude.{◌≡◌, Bool, leb}
use Rattle.std.proofs.Math.Path.{ap}
use mathlib.Core.List.{List, [], ◌∷◌}
use Rattle.std.proofs.Math.Bool.{true, false}
use Prim.Native.Nat.{ℕ, zero, suc, ◌-◌}
use Rattle.std.proofs.Math.ListN.{length}
use Rattle.rules.specs.Answer.{accepted}
use Rattle.rules.specs.Reader.{Reader, ret, if_r, ◌>>=◌, ◌>>◌, but, either, all, span, skip}
use Rattle.rules.specs.Run.{Did, Step, run, limited}
use Rattle.rules.specs.Bytes.{ascii, word, name_byte, line_blank, underscored, trim}
use Rattle.rules.specs.Files.{View}
use Rattle.rules.specs.Sheet.{Records, resolve, set}
use Rattle.rules.specs.Expansion.{Call, hands_back, refuses, outputs, let_value, writes, binds, call_did, calling, call_step, import_step, let_step, reference_step, copy_step, expansion_step, expansion}
use Rattle.rules.proofs.Laws.Answer.{accepted-same}
use Rattle.rules.proofs.Laws.Limit.{limited_inv}
use Rattle.rules.proofs.Laws.Texts.{all_tail, span-all, Clean, clean-span, clean-sees, clean-mark, clean-skip, trim-all, underscored-words}

-- A step keeps P, where the sheet after it is at most L bytes.
module _ {S : Type 0} (size : S → ℕ) (L full : ℕ) (f : Step S) (P : S → Type 0)
    (keep : (s : S) (x : ℕ) (xs : List ℕ) → all ascii (x ∷ xs) ≡ true → P s → leb (size (f s (x ∷ xs)).0.state) L ≡ true → P (f s (x ∷ xs)).0.state) where
  pub run-keeps : (t : List ℕ) (s : S) (k r : ℕ) (y : List ℕ × S) → all ascii t ≡ true → P s → limited size L full r (run f s k t) ≡ accepted y → P y.1
  unfolding run limited
  run-keeps [] s k r y e p a = let q : s ≡ y.1 = ap (λ z. z.1) (accepted-same a) in rw q at p
  run-keeps (x ∷ xs) s (suc k) r y e p a = run-keeps xs s k r y (all_tail ascii x xs e) p a
  run-keeps (x ∷ xs) s zero r y e p a =
      let d = (f s (x ∷ xs)).0 in
      let k = length xs - length (f s (x ∷ xs)).1 in
      let i = limited_inv size L full r d (run f d.state k xs) a in
      let z = run-keeps xs d.state k (r - length i.here) i.later (all_tail ascii x xs e) (keep s x xs e p i.small) i.then-later in
      rw (ap (λ w. w.1) i.whole_is) at z

module _ (P : Records → Type 0) (small : Records → Bool)
    (bound : (s : Records) (n t : List ℕ) → P s → all word n ≡ true → all ascii t ≡ true → small (set s n (let_value t (resolve s t))) ≡ true → P (set s n (let_value t (resolve s t)))) where
  record Keeps (r : Reader (Did Records)) : Type 0 where
    keeps : (t : List ℕ) → all ascii t ≡ true → small (r t).0.state ≡ true → P (r t).0.state

  keeps-writes : (s : Records) (o : List ℕ) → P s → Keeps (ret (writes s o))
  unfolding ret writes
  keeps-writes s o p = record { keeps = λ t e l. p }

  keeps-binds : (s : Records) → P s → Keeps (ret (binds s))
  unfolding ret binds
  keeps-binds s p = record { keeps = λ t e l. p }

  keeps_if : (c : Bool) {r q : Reader (Did Records)} → Keeps r → Keeps q → Keeps (if_r c r q)
  unfolding if_r
  keeps_if true g k = g
  keeps_if false g k = k

  keeps-bind : {A : Type 0} {m : Reader A} {f : A → Reader (Did Records)} → Clean ascii m → ((a : A) → Keeps (f a)) → Keeps (m >>= f)
  unfolding ◌>>=◌
  keeps-bind {m} {f} M F = record { keeps = λ t e l. (F (m t).0).keeps (m t).1 (M.clean t e) l }

  keeps_then : {A : Type 0} {m : Reader A} {f : Reader (Did Records)} → Clean ascii m → Keeps f → Keeps (m >> f)
  unfolding ◌>>◌
  keeps_then {m} {f} M F = record { keeps = λ t e l. F.keeps (m t).1 (M.clean t e) l }

  keeps_copy : (s : Records) → P s → Keeps (copy_step s)
  unfolding copy_step binds writes
  keeps_copy s p = record { keeps = go }
    where
      go : (t : List ℕ) → all ascii t ≡ true → small (copy_step s t).0.state ≡ true → P (copy_step s t).0.state
      go [] e l = p
      go (x ∷ xs) e l = p

  keeps-call : (s : Records) (shown : List ℕ) (c : Call) (u t : List ℕ) → P s → P (call_did s shown c u t).0.state
  unfolding call_did
  keeps-call s shown hands_back u t p = p
  keeps-call s shown (refuses k) u t p = p
  keeps-call s shown (outputs w o) u t p = p

  keeps-calling : (s : Records) (shown : List ℕ) (call : Reader Call) → P s → Keeps (calling s shown call)
  unfolding calling
  keeps-calling s shown call p = record { keeps = λ t e l. keeps-call s shown ((skip >> call) t).0 ((skip >> call) t).1 t p }

  keeps-let : (s : Records) → P s → Keeps (let_step (resolve s) s)
  unfolding let_step ◌>>=◌ ◌>>◌ ret binds
  keeps-let s p = record {
    keeps = λ t e l.
        let t₁ = (span line_blank t).1 in
        let n = span-all ascii name_byte t₁ (span-all ascii line_blank t e).rest in
        let t₂ = (span name_byte t₁).1 in
        let t₃ = (span (either "=" line_blank) t₂).1 in
        let e₃ = (span-all ascii (either "=" line_blank) t₂ n.rest).rest in
        bound s (underscored (span name_byte t₁).0) (trim (span (but "\n") t₃).0) p (underscored-words _ n.each) (trim-all ascii _ (span-all ascii (but "\n") t₃ e₃).stretch) l;
  }

  keeps-step : (v : View) (s : Records) → P s → Keeps (expansion_step v s)
  unfolding expansion_step import_step call_step reference_step
  keeps-step v s p = search (keeps-bind, keeps_then, keeps_if, keeps-writes, keeps-binds, keeps_copy, keeps-calling, keeps-let, clean-span, clean-sees, clean-mark, clean-skip) depth 20

-- The sheet that an accepted expansion leaves.
pub expansion-keeps : (v : View) (size : Records → ℕ) (L n : ℕ) (P : Records → Type 0) →
    ((s : Records) (m t : List ℕ) → P s → all word m ≡ true → all ascii t ≡ true → leb (size (set s m (let_value t (resolve s t)))) L ≡ true → P (set s m (let_value t (resolve s t)))) →
    (s : Records) (t : List ℕ) (y : List ℕ × Records) → all ascii t ≡ true → P s → limited size L 11 n (expansion v s t) ≡ accepted y → P y.1
unfolding expansion
expansion-keeps v size L n P bound s t y e p a =
    run-keeps size L 11 (expansion_step v) P (λ z x xs h q l. (keeps-step P (λ r. leb (size r) L) bound v z q).keeps (x ∷ xs) h l) t s 0 n y e p a
