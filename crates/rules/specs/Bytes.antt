-- Bytes and paths (01, section 1, first half).
use Rattle.std.specs.Prelude.{Bool, true, false, not, ◌&&◌, ◌||◌, List, [], ◌∷◌, ◌++◌, map, ℕ, leb, ltb, eqb, length}
use Prim.Native.Char.{Char, code}
use Rattle.rules.specs.Reader.{bytes, the, but, all, empty, same, span}

-- A byte is a number below 256. Texts hold bytes below 128.
unfoldable pub is_byte : ℕ → Bool
is_byte x = ltb x 256

unfoldable pub ascii : ℕ → Bool
ascii x = ltb x 128

-- Blank: hexadecimal 09 to 0D and 20. Line blank: blank except newline.
unfoldable pub blank : ℕ → Bool
blank x = (leb 0x09 x && leb x 0x0d) || eqb x 0x20

unfoldable pub line_blank : ℕ → Bool
line_blank x = blank x && but "\n" x

unfoldable pub letter : ℕ → Bool
letter x = (leb (code "A") x && leb x (code "Z")) || (leb (code "a") x && leb x (code "z"))

unfoldable pub digit : ℕ → Bool
digit x = leb (code "0") x && leb x (code "9")

-- A letter, a digit or `_`; or `-`; or `.`, the bytes of a run.
unfoldable pub word : ℕ → Bool
word x = letter x || digit x || the "_" x

unfoldable pub name_byte : ℕ → Bool
name_byte x = word x || the "-" x

unfoldable pub run_byte : ℕ → Bool
run_byte x = name_byte x || the "." x

-- Each `-` made `_`, as in a reference and in the name of a `#let`.
unfoldable pub underscored : List ℕ → List ℕ
underscored r = map (λ x. elim (the "-" x) [ true ↦ code "_" | false ↦ x ]) r

-- A text without its trailing blanks; without the blanks at both ends.
unfoldable pub trim_end : List ℕ → List ℕ
trim_end [] = []
trim_end (x ∷ xs) = elim (blank x && empty (trim_end xs)) [ true ↦ [] | false ↦ x ∷ trim_end xs ]

unfoldable pub trim : List ℕ → List ℕ
trim t = trim_end (span blank t).1

-- A text split at every c: one piece more than there are c.
unfoldable pub prepend : ℕ → List (List ℕ) → List (List ℕ)
prepend x [] = (x ∷ []) ∷ []
prepend x (p ∷ ps) = (x ∷ p) ∷ ps

unfoldable pub split : Char → List ℕ → List (List ℕ)
split c [] = [] ∷ []
split c (x ∷ xs) = elim (the c x) [ true ↦ [] ∷ split c xs | false ↦ prepend x (split c xs) ]

-- Does the text hold a c.
unfoldable pub holds : Char → List ℕ → Bool
holds c t = not (all (but c) t)

-- Texts by bytes: a stands before b.
unfoldable pub less : List ℕ → List ℕ → Bool
less [] [] = false
less [] (y ∷ ys) = true
less (x ∷ xs) [] = false
less (x ∷ xs) (y ∷ ys) = ltb x y || (eqb x y && less xs ys)

-- A segment of letters, digits, `-`, `_`, `.`: not empty, not `.` and not `..`.
unfoldable pub is_segment : List ℕ → Bool
is_segment s = all run_byte s && not (empty s) && not (same s (bytes ".")) && not (same s (bytes ".."))

-- Throughout: g a folder, p a path, t a text, s a sheet, v the bundle.
-- A path: 1 to 255 bytes, segments parted by one `/`. A folder: a path or empty.
unfoldable pub is_path : List ℕ → Bool
is_path p = leb 1 (length p) && leb (length p) 255 && all is_segment (split "/" p)

unfoldable pub is_folder : List ℕ → Bool
is_folder g = empty g || is_path g

-- Joining puts `/` between unless the folder is empty.
unfoldable pub join : List ℕ → List ℕ → List ℕ
join g p = elim (empty g) [ true ↦ p | false ↦ g ++ (bytes "/" ++ p) ]

-- A path's folder: what stands before its last `/`, or nothing.
unfoldable pub parent : List ℕ → List ℕ
parent [] = []
parent (x ∷ xs) = elim (holds "/" xs) [ true ↦ x ∷ parent xs | false ↦ [] ]
