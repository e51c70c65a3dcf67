-- Includes (01, section 4), with the levels of section 8.
use Rattle.std.specs.Prelude.{Bool, true, false, not, ◌&&◌, List, [], ◌∷◌, ◌++◌, ℕ, zero, suc}
use Rattle.rules.specs.Answer.{Answer, refused, accepted}
use Rattle.rules.specs.Reader.{Reader, ret, if_r, ◌>>=◌, ◌>>◌, bytes, the, but, all, empty, prefix, span, sees, skip, mark}
use Rattle.rules.specs.Run.{Emit, ok, put, fail, and_then, Did, Step, Trace, run, emitted, ends_in_newline}
use Rattle.rules.specs.Bytes.{ascii, blank, trim, join, parent}
use Rattle.rules.specs.Files.{View, fetch, opened, project_root}

-- The state of a run: the stretch from the last newline, or from where the remaining text begins.
-- Is a mark behind it commented: does it start, blanks skipped, with `//`.
unfoldable pub commented : List ℕ → Bool
commented h = prefix (bytes "//") (span blank h).1

-- What stands between the next two `"`, if they are there.
pub data Quoted : Type 0 where
  unquoted : Quoted
  quoted : List ℕ → Quoted

unfoldable pub quoted_if : Bool → List ℕ → Quoted
quoted_if true p = quoted p
quoted_if false p = unquoted

unfoldable pub quote : Reader Quoted
quote = do
  span (but "\"")
  skip
  p ← span (but "\"")
  e ← sees (the "\"")
  skip
  ret (quoted_if e p)

-- What follows `#source-include`: no `(`; no two `"` behind it; a path without a language; a path and a language.
pub data Source : Type 0 where
  no_paren : Source
  no_path : Source
  no_language : List ℕ → Source
  source : List ℕ → List ℕ → Source

unfoldable pub with_language : List ℕ → Quoted → Source
with_language p unquoted = no_language p
with_language p (quoted l) = source p l

unfoldable pub with_path : Quoted → Reader Source
with_path unquoted = ret no_path
with_path (quoted p) = do
  l ← quote
  ret (with_language p l)

unfoldable pub source_arguments : Reader Source
source_arguments = do
  span blank
  c ← sees (the "(")
  if_r c (do skip; p ← quote; with_path p) (ret no_paren)

-- From the mark: over the first `)`; from there to the first newline.
unfoldable pub over_paren : Reader (Unit {0})
over_paren = do
  span (but ")")
  skip

unfoldable pub to_newline : Reader (List ℕ)
to_newline = do
  over_paren
  span (but "\n")

-- Go on behind that newline; without it behind the `)`; without `)` at the end. u: the text from that newline on.
unfoldable pub behind_source : List ℕ → List ℕ → List ℕ
behind_source [] t = (over_paren t).1
behind_source (x ∷ xs) t = xs

-- A newline if the content lacks a last one.
unfoldable pub last_newline : List ℕ → List ℕ
last_newline c = elim (ends_in_newline c && not (empty c)) [ true ↦ [] | false ↦ bytes "\n" ]

unfoldable pub fenced : List ℕ → Answer (List ℕ) → Emit
fenced l (refused k) = fail k
fenced l (accepted c) = put (bytes "```" ++ (l ++ (bytes "\n" ++ (c ++ (last_newline c ++ bytes "```\n"))))) ok

-- A mark that is copied, or taken: reading goes on behind it, and the stretch begins there.
unfoldable pub wrote : Bool → Emit → Did (List ℕ)
wrote w e = record { whole = w; emit = e; state = [] }

unfoldable pub copied : List ℕ → Did (List ℕ)
copied m = wrote true (put m ok)

-- One byte copied: behind a newline the stretch begins anew. The first line is never asked: a run steps only where a byte stands.
unfoldable pub copy_byte : Step (List ℕ)
copy_byte h [] = (copied [], [])
copy_byte h (x ∷ xs) = (record { whole = true; emit = put (x ∷ []) ok; state = elim (the "\n" x) [ true ↦ [] | false ↦ h ++ (x ∷ []) ] }, xs)

-- v: the bundle. inside: how the text of an included file, with its own folder, is resolved. g: the current folder.
module _ (v : View) (inside : List ℕ → List ℕ → Emit) (g : List ℕ) where
  -- An included file, then a newline.
  unfoldable pub included : List ℕ → Answer (List ℕ) → Emit
  included p (refused k) = fail k
  included p (accepted c) = and_then (inside (parent p) c) (put (bytes "\n") ok)

  -- Behind `#include`, at t; u: behind the second `"`. Without two `"` the mark is copied.
  unfoldable pub include_of : Quoted → List ℕ → List ℕ → Did (List ℕ) × List ℕ
  include_of unquoted u t = (wrote false (put (bytes "#include") ok), t)
  include_of (quoted p) u t = let q = join g (trim p) in (wrote true (included q (fetch v q)), u)

  unfoldable pub include_mark : Reader (Did (List ℕ))
  include_mark t = let r = quote t in include_of r.0 r.1 t

  unfoldable pub source_text : List ℕ → Answer (List ℕ)
  source_text p = opened v (join (project_root v g) (trim p))

  -- Behind `#source-include`, at t; a: where its arguments end; u: from the newline behind its `)`.
  unfoldable pub source_of : Source → List ℕ → List ℕ → List ℕ → Did (List ℕ) × List ℕ
  source_of no_paren a u t = (wrote (not (empty a)) (put (bytes "#source-include") ok), t)
  source_of no_path a u t = (wrote false (put (bytes "#source-include") ok), t)
  source_of (no_language p) a u t = (wrote false (fenced [] (source_text p)), behind_source u t)
  source_of (source p l) a u t = (wrote (not (empty u)) (fenced l (source_text p)), behind_source u t)

  unfoldable pub source_mark : Reader (Did (List ℕ))
  source_mark t = let r = source_arguments t in source_of r.0 r.1 (to_newline t).1 t

  -- One step: a commented mark is copied, a mark is taken, any other byte is copied. Byte by byte: neither mark holds the other's
  -- `#`, so the first place where one stands is the earliest.
  unfoldable pub include_step : Step (List ℕ)
  include_step h = do
    i ← mark (bytes "#include")
    if_r i (if_r (commented h) (ret (copied (bytes "#include"))) include_mark) (do
      s ← mark (bytes "#source-include")
      if_r s (if_r (commented h) (ret (copied (bytes "#source-include"))) source_mark) (copy_byte h))

module _ (v : View) where
  -- The text c of an included file with the folder g, l levels left: 7, then 6. Only what it writes or refuses is kept: its marks
  -- are not the text's own (section 6).
  unfoldable pub inside_file : ℕ → List ℕ → List ℕ → Emit
  inside_file zero g c = fail 7
  inside_file (suc l) g c = elim (all ascii c) [ true ↦ emitted (run (include_step v (inside_file l) g) [] 0 c) | false ↦ fail 6 ]

  -- A text's own includes: six levels.
  unfoldable pub includes : List ℕ → List ℕ → Trace (List ℕ)
  includes g t = run (include_step v (inside_file 6) g) [] 0 t
