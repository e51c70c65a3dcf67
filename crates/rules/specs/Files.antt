-- Files and folders of a bundle (01, section 1): asking for a path, opening a file, the search for `CITATION.cff`.
use Rattle.std.specs.Prelude.{Bool, true, false, not, ◌&&◌, List, [], ◌∷◌, ℕ, zero, suc, leb, length}
use Rattle.std.proofs.Math.Option.{Option, none, some}
use Rattle.rules.specs.Answer.{Answer, refused, accepted, ◌>>=◌, ◌>>◌, check}
use Rattle.rules.specs.Reader.{bytes, all, same}
use Rattle.rules.specs.Bytes.{ascii, is_path, join, parent}
use Rattle.rules.specs.Bundle.{Entry, above}

-- What a path is in a bundle.
pub data File : Type 0 where
  absent : File
  folder : File
  file : List ℕ → File

-- The bundle as sections 4 to 7 see it.
abbrev pub View : Type 0
View = List ℕ → File

unfoldable pub entry_at : List Entry → List ℕ → Option Entry
entry_at [] p = none
entry_at (e ∷ es) p = elim (same e.path p) [ true ↦ some e | false ↦ entry_at es p ]

-- A path is a folder of the bundle if, followed by `/`, it begins an entry's path.
unfoldable pub is_folder_of : List Entry → List ℕ → Bool
is_folder_of es p = not (all (λ e. not (above p e.path)) es)

unfoldable pub file_of : Option Entry → Bool → File
file_of (some e) f = file e.content
file_of none true = folder
file_of none false = absent

unfoldable pub view : List Entry → View
view es p = file_of (entry_at es p) (is_folder_of es p)

-- A file's bytes: 5 where it is absent or a folder.
unfoldable pub content_of : File → Answer (List ℕ)
content_of absent = refused 5
content_of folder = refused 5
content_of (file c) = accepted c

-- 4 where the path rule is broken, before 5.
unfoldable pub fetch : View → List ℕ → Answer (List ℕ)
fetch v p = check 4 (is_path p) >> content_of (v p)

-- Its text: 6 where it holds a byte from 128.
unfoldable pub plain : List ℕ → Answer (List ℕ)
plain c = check 6 (all ascii c) >> accepted c

unfoldable pub opened : View → List ℕ → Answer (List ℕ)
opened v p = fetch v p >>= plain

unfoldable pub exists : File → Bool
exists absent = false
exists folder = true
exists (file c) = true

-- Has the folder g `CITATION.cff`, as a file or a folder. Where its path would pass 255 bytes it is absent without asking.
unfoldable pub has_citation : View → List ℕ → Bool
has_citation v g = let p = join g (bytes "CITATION.cff") in leb (length p) 255 && exists (v p)

-- The nearest folder upward from g that has it, else d. A parent is shorter, so `length g` steps up reach the empty folder.
unfoldable pub upward : View → List ℕ → ℕ → List ℕ → List ℕ
upward v d zero g = elim (has_citation v g) [ true ↦ g | false ↦ d ]
upward v d (suc n) g = elim (has_citation v g) [ true ↦ g | false ↦ upward v d n (parent g) ]

-- The folder that a source's path is joined to.
unfoldable pub project_root : View → List ℕ → List ℕ
project_root v g = upward v g (length g) g
