-- The byte sets, and what the scanning functions promise.
use Rattle.std.specs.Prelude.{◌≡◌, List, Bool, true, not, ◌&&◌, ℕ, ◌+◌, ◌-◌, ◌≤◌, ◌<◌, eqb, length, take, drop}
use Rattle.rules.specs.Reader.{span, sees, skip, prefix, the, either, but}
use Rattle.scan.specs.declared.Range.{Range}
use Rattle.scan.specs.declared.Set.{Set}
use Rattle.scan.specs.declared.Set.TheVariants.{Blank, LineBlank, Letter, Word, Name, Run, CommaOrBlank, ColonOrBlank, EqualsOrLineBlank, EqualsOrBlank, UnderscoreOrLetter, Space, NotParen, NotQuoteNorBackslash, NotDot, NotSlash}
use Rattle.rules.specs.Bytes.{ascii, blank, line_blank, letter, word, name_byte, run_byte}

-- A byte that stands for itself in a literal: not `"` and not `\`.
abbrev pub plain_byte : ℕ → Bool
plain_byte x = but "\"" x && but "\\" x

-- What each set holds.
abbrev pub member : Set → ℕ → Bool
member Blank = blank
member LineBlank = line_blank
member Letter = letter
member Word = word
member Name = name_byte
member Run = run_byte
member CommaOrBlank = either "," blank
member ColonOrBlank = either ":" blank
member EqualsOrLineBlank = either "=" line_blank
member EqualsOrBlank = either "=" blank
member UnderscoreOrLetter = either "_" letter
member Space = the " "
member NotParen = but ")"
member NotQuoteNorBackslash = plain_byte
member NotDot = but "."
member NotSlash = but "/"

-- One name to unfold the classes by.
unfoldable pub classes : ℕ
unfolding ascii blank line_blank letter Rattle.rules.specs.Bytes.digit word name_byte run_byte the either but
classes = 0

-- The byte c; `the` says the same of a character.
abbrev pub byte_is : ℕ → ℕ → Bool
byte_is c x = eqb x c

-- Another byte than c; `but` says the same of a character.
abbrev pub not_byte : ℕ → ℕ → Bool
not_byte c x = not (eqb x c)

-- The part of a text from a to b.
abbrev pub part : List ℕ → ℕ → ℕ → List ℕ
part t a b = take (b - a) (drop a t)

-- A range lies inside a text.
pub record Within (t : List ℕ) (r : Range) : Type 0 where
  pub order : r.from ≤ r.to
  pub inside : r.to ≤ length t

-- The stretch of t from i by p goes to j.
pub record Spans (p : ℕ → Bool) (t : List ℕ) (i j : ℕ) : Type 0 where
  pub on : i ≤ j
  pub inside : j ≤ length t
  pub took : (span p (drop i t)).0 ≡ take (j - i) (drop i t)
  pub rest : (span p (drop i t)).1 ≡ drop j t

-- r says whether there is a byte of p at i.
pub record Sees (p : ℕ → Bool) (t : List ℕ) (i : ℕ) (r : Bool) : Type 0 where
  pub says : sees p (drop i t) ≡ (r, drop i t)
  pub there : r ≡ true → i < length t

-- r says whether the mark stands at i.
pub record Starts (m t : List ℕ) (i : ℕ) (r : Bool) : Type 0 where
  pub says : prefix m (drop i t) ≡ r
  pub there : r ≡ true → i + length m ≤ length t

-- The mark stands at a place; `behind` is the place behind it.
pub record Stands (m t : List ℕ) (at behind : ℕ) : Type 0 where
  pub on : at ≤ behind
  pub inside : behind ≤ length t
  pub text : part t at behind ≡ m

-- One byte on from i, or none at the end.
pub record Skips (t : List ℕ) (i j : ℕ) : Type 0 where
  pub on : i ≤ j
  pub inside : j ≤ length t
  pub rest : (skip (drop i t)).1 ≡ drop j t
