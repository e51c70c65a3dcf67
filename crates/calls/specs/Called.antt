-- What a call promises.
use Rattle.std.specs.Prelude.{◌≡◌, refl, List, Bool, ℕ, ◌≤◌, length, drop, Option, Some, None, Result, Ok, Err}
use Rattle.rules.specs.Run.{ok, put}
use Rattle.rules.specs.Sheet.{Records}
use Rattle.rules.specs.Expansion.{Call, hands_back, refuses, outputs, call_did}
use Rattle.refusal.specs.declared.Refusal.{Refusal}
use Rattle.refusal.specs.Numbers.{number}
use Rattle.scan.specs.declared.read.Read.{Read}
use Rattle.buffers.specs.declared.writer.Writer.{Writer}
use Rattle.buffers.specs.Wrote.{Wrote, wrote-fail}
use Rattle.calls.specs.declared.Output.{Output}

-- c: what the rules read of a call in t, and the text behind it, where k bytes were read; w, w₂: the writer before the call and behind it.
unfoldable pub Says : Call × List ℕ → List ℕ → Writer → Writer → ℕ → Option Output → Type 0
Says c t w w₂ k None = (c ≡ (hands_back, drop k t)) × (w₂ ≡ w)
Says c t w w₂ k (Some o) = (v : List ℕ) × (c ≡ (outputs o.whole v, drop k t)) × Wrote (put v ok) w w₂ o.put

-- The call is read, or refused, and then puts nothing.
unfoldable pub Calls : Call × List ℕ → List ℕ → Writer → Writer → Result (Read (Option Output)) Refusal → Type 0
Calls c t w w₂ (Ok r) = (r.used ≤ length t) × Says c t w w₂ r.used r.what
Calls c t w w₂ (Err k) = (c.0 ≡ refuses (number k)) × (w₂ ≡ w)

-- THE WAYS through a call: refused, handed back, an output that was put or not.
pub calls-refused : (c : Call × List ℕ) (t : List ℕ) {k : Refusal} (w : Writer) → c.0 ≡ refuses (number k) → {r : Result (Read (Option Output)) Refusal} → r ≡ Err k → Calls c t w w r
unfolding Calls
calls-refused c t w e x = rw x (e, refl)

module _ {c : Call × List ℕ} (t : List ℕ) where
  pub calls-back : {i : ℕ} (w : Writer) → c ≡ (hands_back, drop i t) → i ≤ length t → Calls c t w w (Ok (record { what = None; used = i }))
  unfolding Calls Says
  calls-back w e h = (h, (e, refl))

  pub calls-output : {i : ℕ} {whole : Bool} {o : List ℕ} → c ≡ (outputs whole o, drop i t) → i ≤ length t → {w w₂ : Writer} {q : Result (Unit {0}) Refusal} → Wrote (put o ok) w w₂ q → Calls c t w w₂ (Ok (record { what = Some (record { whole = whole; put = q }); used = i }))
  unfolding Calls Says
  calls-output {o = o} e h s = (h, (o, e, s))

-- The step of a call that is refused is refused alike.
pub call-refused : (s : Records) (v u b : List ℕ) {c : Call} {k : Refusal} (w : Writer) → c ≡ refuses (number k) → {A : Type 0} {q : Result A Refusal} → q ≡ Err k → Wrote (call_did s v c u b).0.emit w w q
unfolding call_did
call-refused s v u b {k = k} w e y = rw (e, y) (wrote-fail w k)
