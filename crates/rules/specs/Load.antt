-- The test load (E2): a text that both suppliers make of a seed, so that seeds are exchanged and not files.
use Rattle.std.specs.Prelude.{Bool, true, false, List, [], ◌∷◌, ◌++◌, ℕ, zero, suc, ◌+◌, ◌*◌, ◌/◌, ◌%◌, ◌^◌, get_or}
use Rattle.rules.specs.Reader.{bytes}

-- Wrapping at 32 bits.
unfoldable pub wrap : ℕ → ℕ
wrap n = n % 2 ^ 32

-- The state is 32 bits: next = 1664525 × state + 1013904223, where the product and the sum wrap.
unfoldable pub next : ℕ → ℕ
next state = wrap (wrap (1664525 * state) + 1013904223)

-- A draw below n: the new state shifted right by 16, modulo n.
unfoldable pub draw : ℕ → ℕ → ℕ
draw n state = next state / 2 ^ 16 % n

-- How many pieces: the first draw, below 32, plus 1.
unfoldable pub piece_count : ℕ → ℕ
piece_count seed = draw 32 seed + 1

-- Texts joined.
unfoldable pub concat : List (List ℕ) → List ℕ
concat [] = []
concat (p ∷ ps) = p ++ concat ps

-- `list`: the pieces to choose from, from 0. Each piece is a draw below 8; the load of a seed is its pieces joined.
module _ (list : List (List ℕ)) where
  unfoldable pub pieces_from : ℕ → ℕ → List (List ℕ)
  pieces_from zero state = []
  pieces_from (suc k) state = get_or list (draw 8 state) [] ∷ pieces_from k (next state)

  unfoldable pub pieces : ℕ → List (List ℕ)
  pieces seed = pieces_from (piece_count seed) (next seed)

  unfoldable pub load : ℕ → List ℕ
  load seed = concat (pieces seed)

-- The two lists, from 0: document pieces, and definition pieces.
unfoldable pub document_pieces : List (List ℕ)
document_pieces = bytes "#x" ∷ bytes "#x." ∷ bytes "#raw(x)" ∷ bytes "#link(\"u\")[t]" ∷ bytes "\n" ∷ bytes "#let y = x\n" ∷ bytes " " ∷ bytes "none" ∷ []

unfoldable pub definition_pieces : List (List ℕ)
definition_pieces = bytes "#let x = \"10\"\n" ∷ bytes "(a:" ∷ bytes ")" ∷ bytes "none" ∷ bytes ", " ∷ bytes "#let d = " ∷ bytes "\"\\q\"" ∷ bytes "\n" ∷ []

unfoldable pub list_of : Bool → List (List ℕ)
list_of definitions = elim definitions [ true ↦ definition_pieces | false ↦ document_pieces ]
