-- The order of the argument refusals: a call whose arguments break a rule is refused with the number of the first that is broken.
use Rattle.std.specs.Prelude.{◌≡◌, ◌≢◌, List, [], ◌∷◌, Bool, true, false, ℕ, suc, ◌*◌, leb, eqb, length, take, drop}
use Rattle.std.proofs.Math.Path.{refl}
use Rattle.std.proofs.Common.{sym, ◌∙◌, arith}
use Rattle.std.proofs.Math.Option.{Option, none, some}
use Rattle.rules.specs.Answer.{Answer, refused, accepted, ◌>>=◌, ◌>>◌, check, is_some, or_refuse, first_broken}
use Rattle.rules.specs.Reader.{all}
use Rattle.rules.specs.Bytes.{ascii, is_path, is_folder}
use Rattle.rules.specs.Bundle.{bundle_of}
use Rattle.rules.specs.Files.{fetch}
use Rattle.rules.specs.Sheet.{sheet_of}
use Rattle.rules.specs.Imports.{definitions, file_sheet}
use Rattle.rules.specs.Calls.{Setting, limit, resolve_result, find_file_result, find_file_of, resolve_includes_result, preprocess_typst_result, parse_definitions_result, pass_result}
use Rattle.rules.proofs.Laws.Bool.{true-some, false-some, true-eqb, false-eqb}
use Rattle.rules.proofs.Laws.Answer.{not-both}
use Rattle.rules.proofs.Laws.Sheet.{sheet-size}
use Rattle.rules.proofs.Laws.Found.{found_number, found-there, found-absent}

-- The answer is the first broken rule's, where one is broken.
pub record Refuses {A : Type 0} (x : Answer A) (rs : List (ℕ × Bool)) : Type 0 where
  pub first : first_broken rs ≢ 0 → x ≡ refused (first_broken rs)

module _ {A : Type 0} {x : Answer A} where
  pub kept : Refuses x []
  unfolding first_broken
  kept = record { first = λ h. absurd (h refl) }

  -- A rule is broken, or it is kept and the answer is that of the rules behind it.
  pub rule : {k : ℕ} {c : Bool} {rs : List (ℕ × Bool)} → (c ≡ false → x ≡ refused k) → (c ≡ true → Refuses x rs) → Refuses x ((k, c) ∷ rs)
  unfolding first_broken
  rule {c = true} f g = record { first = (g refl).first }
  rule {c = false} f g = record { first = λ h. f refl }

  -- The same of what cannot be read, or is read.
  pub layout : {B : Type 0} {k : ℕ} {o : Option B} {rs : List (ℕ × Bool)} → (o ≡ none → x ≡ refused k) → ((b : B) → o ≡ some b → Refuses x rs) → Refuses x ((k, is_some o) ∷ rs)
  layout f g = rule (λ h. f (false-some _ h)) (λ h. let b = true-some _ h in g b.0 b.1)

  -- Accepted, it has broken none: the first rule is kept, and so are those behind it.
  pub none-broken : {a : A} {rs : List (ℕ × Bool)} → Refuses x rs → x ≡ accepted a → first_broken rs ≡ 0
  none-broken {rs = rs} r h = true-eqb (first_broken rs) 0 (at (eqb (first_broken rs) 0) refl)
    where
      at : (c : Bool) → eqb (first_broken rs) 0 ≡ c → eqb (first_broken rs) 0 ≡ true
      at true e = e
      at false e = absurd (not-both (sym (r.first (false-eqb (first_broken rs) 0 e)) ∙ h))

pub first-kept : (k : ℕ) (c : Bool) (rs : List (ℕ × Bool)) → first_broken ((suc k, c) ∷ rs) ≡ 0 → (c ≡ true) × (first_broken rs ≡ 0)
unfolding first_broken
first-kept k true rs h = (refl, h)
first-kept k false rs h = absurd (omega arith)

pub resolve-order : (sheet path : List ℕ) (n : ℕ) → Refuses (resolve_result sheet path n) ((3, is_some (sheet_of sheet)) ∷ (6, all ascii path) ∷ [])
unfolding resolve_result or_refuse check ◌>>=◌ ◌>>◌
resolve-order sheet path n = layout (λ p. rw p) (λ s p. rule (λ q. rw (p, q)) (λ q. kept))

pub find_file_order : (bundle path : List ℕ) → Refuses (find_file_result bundle path) ((2, is_some (bundle_of bundle)) ∷ (4, is_path path) ∷ [])
unfolding find_file_result or_refuse check ◌>>=◌ ◌>>◌
find_file_order bundle path = layout (λ p. rw p) (λ es p. rule (λ q. rw (p, q)) (λ q. kept))

pub resolve_includes_order : (bundle folder text : List ℕ) (n : ℕ) →
    Refuses (resolve_includes_result bundle folder text n) ((2, is_some (bundle_of bundle)) ∷ (4, is_folder folder) ∷ (6, all ascii text) ∷ [])
unfolding resolve_includes_result or_refuse check ◌>>=◌ ◌>>◌
resolve_includes_order bundle folder text n = layout (λ p. rw p) (λ es p. rule (λ q. rw (p, q)) (λ q. rule (λ r. rw (p, q, r)) (λ r. kept)))

pub preprocess_typst_order : (bundle text sheet : List ℕ) (n l : ℕ) →
    Refuses (preprocess_typst_result bundle text sheet n l) ((2, is_some (bundle_of bundle)) ∷ (3, is_some (sheet_of sheet)) ∷ (6, all ascii text) ∷ (9, leb (length sheet) (limit l)) ∷ [])
unfolding preprocess_typst_result or_refuse check ◌>>=◌ ◌>>◌
preprocess_typst_order bundle text sheet n l =
    layout (λ p. rw p) (λ es p. layout (λ q. rw (p, q)) (λ s q. rule (λ r. rw (p, q, r)) (λ r. rule (λ f. rw (p, q, r, sheet-size sheet s q, f)) (λ f. kept))))

-- 5 and 6 are those of its own file, as `find_file` finds it.
pub parse_definitions_order : (bundle path : List ℕ) (l w : ℕ) → let f = find_file_of bundle path in
    Refuses (parse_definitions_result bundle path l w)
    ((1, leb (16 * limit l) w) ∷ (2, is_some (bundle_of bundle)) ∷ (4, is_path path) ∷ (5, eqb f.kind 2) ∷ (6, all ascii (take f.len (drop f.start bundle))) ∷ [])
unfolding parse_definitions_result definitions file_sheet fetch or_refuse check ◌>>=◌ ◌>>◌
parse_definitions_order bundle path l w =
    rule (λ o. rw o) (λ o. layout (λ p. rw (o, p)) (λ es p.
    rule (λ q. rw (o, p, q)) (λ q.
    let z = found_number bundle path es p q in
    rule (λ k. rw (o, p, found-absent bundle path es p z k)) (λ k.
    rule (λ a. rw (o, p, found-there bundle path es p z (true-eqb _ 2 k), a)) (λ a. kept)))))

pub pass_order : (k : Setting) (sheet text : List ℕ) →
    Refuses (pass_result k sheet text)
    ((2, is_some (bundle_of k.bundle)) ∷ (3, is_some (sheet_of sheet)) ∷ (4, is_folder k.folder) ∷ (6, all ascii text) ∷ (9, leb (length sheet) (limit k.left_len)) ∷ [])
unfolding pass_result or_refuse check ◌>>=◌ ◌>>◌
pass_order k sheet text =
    layout (λ p. rw p) (λ es p. layout (λ q. rw (p, q)) (λ s q. rule (λ g. rw (p, q, g)) (λ g. rule (λ r. rw (p, q, g, r)) (λ r. rule (λ f. rw (p, q, g, r, sheet-size sheet s q, f)) (λ f. kept)))))
