-- Opening a file, and the search for `CITATION.cff`.
use Rattle.std.specs.Prelude.{Result, Ok, Err, ◌≡◌, ◌⊎◌, refl, Bool, true, false, length}
use Rattle.std.proofs.Math.Path.{sym}
use Rattle.std.specs.Borrow.{Bor}
use Rattle.std.proofs.lemmas.Bool.{lt-leb}
use Rattle.std.proofs.Common.{ap, ◌∙◌, true≢false, le-leb}
use mathlib.Core.List.{List, [], ◌∷◌}
use Prim.Native.Nat.{ℕ, zero, suc, ◌-◌, ◌≤◌, ◌<◌}
use native.Mathlib.Omega.{arith}
use Rattle.rules.specs.Answer.{Answer, refused, accepted, ◌>>=◌, ◌>>◌, check}
use Rattle.rules.specs.Reader.{bytes, all}
use Rattle.rules.specs.Bytes.{ascii, is_path, join, parent, holds}
use Rattle.rules.specs.Bundle.{Entry}
use Rattle.rules.specs.Files.{View, view, content_of, fetch, plain, opened, exists, has_citation, upward, project_root}
use Rattle.paths.specs.Paths.{path-long}
use Rattle.paths.specs.Joined.{text}
use Rattle.bundle.specs.Find.{Finds, file_at}
use Rattle.paths.specs.declared.path.Path.{Path}
use Rattle.bundle.specs.declared.Found.{Found}
use Rattle.bundle.specs.declared.Found.TheVariants.{Absent, Folder, File as At}
use Rattle.refusal.specs.Numbers.{number}
use Rattle.refusal.specs.declared.Refusal.{Refusal}
use Rattle.refusal.specs.declared.Refusal.TheVariants.{Byte, Level}

-- The text that was asked for, or 01's number.
abbrev pub Answers : Answer (List ℕ) → Result (Bor (List ℕ)) Refusal → Type 0
Answers a (Ok t) = a ≡ accepted t.now
Answers a (Err e) = a ≡ refused (number e)

-- The text t, opened with l levels left; or 7 where none is left, or 6 where t holds a byte from 128.
abbrev pub OpensWithin : List ℕ → ℕ → Result (Bor (List ℕ)) Refusal → Type 0
OpensWithin t l (Ok s) = (0 < l) × (all ascii t ≡ true) × (s.now ≡ t)
OpensWithin t l (Err k) = ((l ≡ 0) × (k ≡ Level)) ⊎ ((0 < l) × (all ascii t ≡ false) × (k ≡ Byte))

-- A path q is another one, p, joined to a folder g; or 4 where that is longer than a path may be.
abbrev pub JoinsWithin : List ℕ → List ℕ → Path → Result Unit Refusal → Type 0
JoinsWithin g p q (Ok u) = text q ≡ join g p
JoinsWithin g p q (Err k) = (255 < length (join g p)) × (number k ≡ 4)

-- FETCHING: 4, then 5.
module _ (es : List Entry) (p : List ℕ) {c : Bool} (e : c ≡ is_path p) where
  pub fetch-path : c ≡ false → fetch (view es) p ≡ refused 4
  unfolding fetch check ◌>>◌
  fetch-path h = rw (sym e ∙ h)

  pub fetch-found : c ≡ true → (b : List ℕ) {f : Found} → Finds b es p f → fetch (view es) p ≡ content_of (file_at b f)
  unfolding fetch check ◌>>◌
  fetch-found h b {f} k = rw (sym e ∙ h, k.seen)

-- OPENING: a fetched file's text, then 6.
module _ (v : View) (p : List ℕ) where
  pub open_refused : {k : ℕ} → fetch v p ≡ refused k → opened v p ≡ refused k
  unfolding opened ◌>>=◌
  open_refused e = rw e

  module _ {t : List ℕ} (e : fetch v p ≡ accepted t) {c : Bool} (k : c ≡ all ascii t) where
    pub open-six : c ≡ false → opened v p ≡ refused 6
    unfolding opened plain check ◌>>=◌ ◌>>◌
    open-six h = rw (e, sym k ∙ h)

    pub open-text : c ≡ true → opened v p ≡ accepted t
    unfolding opened plain check ◌>>=◌ ◌>>◌
    open-text h = rw (e, sym k ∙ h)

-- A path that is too long: 4.
pub long-fetch : (v : View) (p : List ℕ) → 255 < length p → fetch v p ≡ refused 4
unfolding fetch check ◌>>◌
long-fetch v p h = rw (sym (path-long p h)) refl

pub long-opened : (v : View) (p : List ℕ) → 255 < length p → opened v p ≡ refused 4
unfolding opened ◌>>=◌
long-opened v p h = rw (long-fetch v p h) refl

-- CITATION.cff.
abbrev pub there : Found → Bool
there Absent = false
there Folder = true
there (At r) = true

exists-at : (b : List ℕ) (f : Found) → exists (file_at b f) ≡ there f
unfolding exists file_at
exists-at b Absent = refl
exists-at b Folder = refl
exists-at b (At r) = refl

module _ (b : List ℕ) (es : List Entry) (g : List ℕ) where
  pub citation_long : 255 < length (join g (bytes "CITATION.cff")) → false ≡ has_citation (view es) g
  unfolding has_citation
  citation_long h = rw (lt-leb _ 255 h)

  pub citation_asked : {p : List ℕ} → length p ≤ 255 → p ≡ join g (bytes "CITATION.cff") → {f : Found} → Finds b es p f → {r : Bool} → r ≡ there f → r ≡ has_citation (view es) g
  unfolding has_citation
  citation_asked {p} h q {f} k t = t ∙ sym (rw (sym q, le-leb (length p) 255 h, k.seen) (exists-at b f))

-- UPWARD. The project root of the folder d is what the steps that are left find from g on.
pub record Rising (v : View) (d g : List ℕ) : Type 0 where
  pub steps : ℕ
  pub enough : length g ≤ steps
  pub rest : project_root v d ≡ upward v d steps g

pub rising-start : (v : View) (d : List ℕ) → Rising v d d
unfolding project_root
rising-start v d = record { steps = length d; enough = omega arith; rest = refl }

holds-some : (x : ℕ) (xs : List ℕ) → holds "/" xs ≡ true → 0 < length xs
unfolding holds all
holds-some x [] h = absurd (true≢false (sym h))
holds-some x (y ∷ ys) h = omega arith

parent_shorter : (p : List ℕ) → 0 < length p → length (parent p) < length p
unfolding parent
parent_shorter [] h = absurd (omega arith)
parent_shorter (x ∷ xs) h = at (holds "/" xs) refl (parent_shorter xs)
  where
    at : (c : Bool) → holds "/" xs ≡ c → (0 < length xs → length (parent xs) < length xs) → length (parent (x ∷ xs)) < suc (length xs)
    at true q ih = rw (q, parent) (omega (arith, ih (holds-some x xs q)))
    at false q ih = rw (q, parent) (omega arith)

module _ {v : View} {d g : List ℕ} (R : Rising v d g) {c : Bool} (e : c ≡ has_citation v g) where
  pub rising-found : c ≡ true → g ≡ project_root v d
  unfolding upward
  rising-found h = sym (R.rest ∙ at R.steps)
    where
      at : (k : ℕ) → upward v d k g ≡ g
      at zero = rw (sym e ∙ h, upward)
      at (suc k) = rw (sym e ∙ h, upward)

  pub rising-top : c ≡ false → length g ≡ 0 → d ≡ project_root v d
  unfolding upward parent
  rising-top h z = sym (R.rest ∙ at R.steps g (sym e ∙ h) z)
    where
      at : (k : ℕ) (g : List ℕ) → has_citation v g ≡ false → length g ≡ 0 → upward v d k g ≡ d
      at zero g q z = rw (q, upward)
      at (suc k) [] q z = rw (q, upward) (at k [] q z)
      at (suc k) (x ∷ xs) q z = absurd (omega arith)

  pub rising-on : c ≡ false → (length g ≡ 0 → ⊥) → {u : List ℕ} → u ≡ parent g → (length u < length g) × Rising v d u
  unfolding upward
  rising-on h z {u} q =
      let s : length (parent g) < length g = parent_shorter g (omega (arith, z)) in
      let l : length u ≡ length (parent g) = ap length q in
      let o : R.steps ≡ suc (R.steps - 1) = omega (arith, R.enough) in (
        omega arith,
        record {
          steps = R.steps - 1;
          enough = omega (arith, R.enough);
          rest = R.rest ∙ ap (λ y. upward v d y g) o ∙ rw (sym e ∙ h, upward) (ap (upward v d (R.steps - 1)) (sym q));
        },
      )
