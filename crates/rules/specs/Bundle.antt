-- The bundle's bytes (01, section 1).
use Rattle.std.specs.Prelude.{Bool, true, not, ◌&&◌, List, [], ◌∷◌, ◌++◌, map, ℕ, ◌+◌, ◌-◌, leb, ltb, length}
use Rattle.std.proofs.Math.Option.{Option, some}
use Rattle.rules.specs.Reader.{bytes, all, prefix}
use Rattle.rules.specs.Bytes.{is_path, join, holds, less}
use Rattle.rules.specs.Layout.{Parser, bind, ◌>>=◌, ◌>>◌, pure, require, bit, remaining, byte, word16, field_if, times}

-- A file of the bundle: its path, where its content starts in the bundle, its content.
-- Without content, start is the place behind the entry's last field.
pub record Entry : Type 0 where
  pub path : List ℕ
  pub start : ℕ
  pub content : List ℕ

-- One entry of a bundle of n bytes: map byte (below 8: bits 3 to 7 are zero), folder (bit 0), file name (bit 1, must be set), content (bit 2).
unfoldable pub entry : ℕ → Parser Entry
entry n = do
  m ← byte
  require (ltb m 8 && bit 1 m)
  g ← field_if (bit 0 m) byte
  f ← field_if true byte
  require (not (holds "/" f))
  c ← field_if (bit 2 m) word16
  r ← remaining
  pure (record { path = join g f; start = n - (length c + r); content = c })

-- Strictly ascending by bytes.
unfoldable pub ascending : List (List ℕ) → Bool
ascending [] = true
ascending (p ∷ []) = true
ascending (p ∷ q ∷ ps) = less p q && ascending (q ∷ ps)

-- Does p, followed by `/`, begin the path q.
unfoldable pub above : List ℕ → List ℕ → Bool
above p q = prefix (p ++ bytes "/") q

-- Paths of a bundle: each keeps the path rule, ascending, and none followed by `/` begins another. That is every pair, not only
-- neighbours; a path with itself is harmless, for with the `/` it is longer.
unfoldable pub good_paths : List (List ℕ) → Bool
good_paths ps = all is_path ps && ascending ps && all (λ p. all (λ q. not (above p q)) ps) ps

unfoldable pub paths_of : List Entry → List (List ℕ)
paths_of es = map (λ e. e.path) es

-- Entry count, then the entries, nothing behind; none where a rule is broken (refusal 2).
unfoldable pub bundle_parser : ℕ → Parser (List Entry)
bundle_parser n = do
  c ← word16
  es ← times c (entry n)
  r ← remaining
  require (leb r 0 && good_paths (paths_of es))
  pure es

unfoldable pub bundle_of : List ℕ → Option (List Entry)
bundle_of b = bind (bundle_parser (length b) b) (λ r. some r.0)
