-- A whole bundle, by its entries.
use Rattle.std.specs.Prelude.{◌≡◌, refl, List, [], ◌++◌, Bool, true, false, ◌&&◌, ℕ, ◌<◌, leb, length, drop}
use Rattle.std.proofs.Common.{sym, arith}
use Rattle.std.proofs.Math.Option.{Option, none, some}
use Rattle.rules.specs.Layout.{bind, ◌>>=◌, ◌>>◌, pure, require, broken, remaining, times, word16}
use Rattle.rules.specs.Bundle.{Entry, entry, good_paths, paths_of, bundle_parser, bundle_of}
use Rattle.rules.specs.Answer.{is_some}
use Rattle.rules.proofs.Laws.Layout.{word_end}

-- What the bundle holds, by what is still to be read behind the entries es.
unfoldable pub finish : ℕ → List Entry → Option (List Entry)
finish r es = elim (leb r 0 && good_paths (paths_of es)) [ true ↦ some es | false ↦ none ]

unfoldable pub closing : List Entry → Option (List Entry × List ℕ) → Option (List Entry)
closing es none = none
closing es (some s) = finish (length s.1) (es ++ s.0)

opening : (v : Option (List Entry × List ℕ)) → bind (bind v (λ r. (remaining >>= (λ l. require (leb l 0 && good_paths (paths_of r.0)) >> pure r.0)) r.1)) (λ r. some r.0) ≡ closing [] v
unfolding bind closing finish remaining require broken pure ◌>>=◌ ◌>>◌
opening none = refl
opening (some s) = at (leb (length s.1) 0 && good_paths (paths_of s.0)) refl
  where
    at : (c : Bool) → (leb (length s.1) 0 && good_paths (paths_of s.0)) ≡ c → bind ((remaining >>= (λ l. require (leb l 0 && good_paths (paths_of s.0)) >> pure s.0)) s.1) (λ r. some r.0) ≡ finish (length s.1) s.0
    at true q = rw (q, finish)
    at false q = rw (q, finish)

pub check-short : (b : List ℕ) → length b < 2 → false ≡ is_some (bundle_of b)
unfolding bundle_of bundle_parser ◌>>=◌ bind is_some
check-short b h = sym (rw (word_end b 0 (omega arith)))

pub bundle-rest : (b : List ℕ) {n : ℕ} → word16 b ≡ some (n, drop 2 b) → bundle_of b ≡ closing [] (times n (entry (length b)) (drop 2 b))
unfolding bundle_of bundle_parser ◌>>=◌ bind
bundle-rest b {n} e = rw e (opening (times n (entry (length b)) (drop 2 b)))
