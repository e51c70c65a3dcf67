-- Laws of the lookup call.
use Rattle.std.specs.Prelude.{Option, Some, None, ◌≡◌, List, Bool, true, false, ℕ, leb, length, take, Ok, Err}
use Rattle.std.proofs.Math.Option.{Option as MathOption}
use Rattle.std.proofs.Math.Path.{refl, sym, ap}
use Rattle.std.proofs.Common.{◌∙◌, arith, length-take-le}
use Rattle.rules.specs.Answer.{Answer, refused, accepted, ◌>>=◌, ◌>>◌, check, or_refuse, is_some}
use Rattle.rules.specs.Reader.{all}
use Rattle.rules.specs.Bytes.{ascii}
use Rattle.rules.specs.Run.{put, ok}
use Rattle.rules.specs.Sheet.{Value, sheet_of, resolve, text_of}
use Rattle.rules.specs.Calls.{resolve_result}
use Rattle.rules.proofs.Laws.Answer.{not-both, accepted-same, check_inv}
use Rattle.rules.proofs.Laws.Bool.{false-some}
use Rattle.refusal.specs.declared.Refusal.{Refusal}
use Rattle.refusal.specs.declared.Refusal.TheVariants.{Sheet, Byte}
use Rattle.refusal.specs.Numbers.{number}
use Rattle.sheet.specs.declared.lookup.Found.{Found}
use Rattle.sheet.specs.declared.lookup.Found.TheVariants.{Nothing, Text, Dictionary}
use Rattle.sheet.specs.Records.{records_of, sheet-some}
use Rattle.sheet.specs.Find.{Gives, Tells, gives-kind}
use Rattle.buffers.specs.Emits.{write-one}
use Rattle.buffers.specs.Wrote.{Stands, first_bytes}
use Rattle.lookups.specs.Text.{Resolves, text_len}

refused-same : {A : Type 0} {j k : ℕ} → ◌≡◌ {A = Answer A} (refused j) (refused k) → j ≡ k
refused-same h = cc

-- How long the text of what was found is.
gives-length : (s : List ℕ) (x : MathOption Value) (f : Option Found) → Gives s x f → length (text_of x) ≡ text_len f
unfolding Gives Tells text_of text_len
gives-length s x None g = rw g refl
gives-length s x (Some Nothing) g = rw (g.1, g.2) refl
gives-length s x (Some (Text p)) g = rw (g.1, g.2.1) (omega (arith, g.2.2.ends))
gives-length s x (Some (Dictionary p n)) g = rw (g.1, g.2.1) refl

-- REFUSED before the lookup: 3, then 6.
pub resolve-three : (s p b : List ℕ) → is_some (sheet_of s) ≡ false → Resolves s p b b (Err Sheet)
unfolding resolve_result or_refuse ◌>>=◌
resolve-three s p b h = record { size = refl; fits = tt; is = rw (false-some (sheet_of s) h) refl }

module _ (s p b : List ℕ) (k : is_some (sheet_of s) ≡ true) where
  pub resolve-six : all ascii p ≡ false → Resolves s p b b (Err Byte)
  unfolding resolve_result or_refuse check ◌>>=◌ ◌>>◌
  resolve-six a = record { size = refl; fits = tt; is = rw (sheet-some s k, a) refl }

  -- LOOKED UP: then 11, if there is no room for its text.
  module _ (a : all ascii p ≡ true) where
    looked : (n : ℕ) → resolve_result s p n ≡ (check 11 (leb (length (text_of (resolve (records_of s) p))) n) >> accepted (resolve (records_of s) p))
    unfolding resolve_result or_refuse check ◌>>=◌ ◌>>◌
    looked n = rw (sheet-some s k, a) refl

    -- Its text t is put at the start of the buffer.
    module _ {t : List ℕ} (q : t ≡ text_of (resolve (records_of s) p)) where
      looked-here : resolve_result s p (length b) ≡ (check 11 (leb (length t) (length b)) >> accepted (resolve (records_of s) p))
      looked-here = looked (length b) ∙ rw (sym q) refl

      pub resolve_eleven : {c : List ℕ} {k : Refusal} → Stands 11 (length b) (put t ok) c (Err k) → Resolves s p b c (Err k)
      unfolding first_bytes check ◌>>◌
      resolve_eleven {k = k} S = record { size = S.size; fits = tt; is = looked-here ∙ at (leb (length t) (length b)) (sym (write-one 11 (length b) t) ∙ S.is) }
        where
          at : (d : Bool) → ◌≡◌ {A = Answer (List ℕ)} (check 11 d >> accepted t) (refused (number k)) → (check 11 d >> accepted (resolve (records_of s) p)) ≡ refused (number k)
          at true h = absurd (not-both (sym h))
          at false h = ap refused (refused-same h)

      pub resolve_text : {c : List ℕ} {n : ℕ} → Stands 11 (length b) (put t ok) c (Ok n) → (f : Option Found) → Gives s (resolve (records_of s) p) f → Resolves s p b c (Ok f)
      unfolding first_bytes
      resolve_text {c} {n} S f g =
          let h = check_inv 11 (leb (length t) (length b)) (accepted t) (sym (write-one 11 (length b) t) ∙ S.is) in
          let stands : take n c ≡ t = sym (accepted-same h.1) in
          let long : n ≡ text_len f = sym (length-take-le n c (omega (arith, S.size, S.fits))) ∙ ap length (stands ∙ q) ∙ gives-length s _ f g in
          record {
            size = S.size;
            fits = omega (arith, S.fits, long);
            is = (
              resolve (records_of s) p,
              looked-here ∙ rw h.0 (unfold check ◌>>◌ in refl),
              record { kind = gives-kind s _ f g; text = ap (λ m. take m c) (sym long) ∙ stands ∙ q },
            );
          }
