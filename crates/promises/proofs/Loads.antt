-- The test load (E2): seed 0 by computation, and what holds of every seed.
use Rattle.std.specs.Prelude.{◌≡◌, Bool, true, false, List, [], ◌∷◌, map, ℕ, ◌+◌, ◌*◌, ◌%◌, ◌^◌, ◌≤◌, ◌<◌, leb, length}
use Rattle.std.proofs.Math.Path.{refl}
use Rattle.std.proofs.Common.{ap, ◌∙◌, arith, length-append, le-leb}
use Rattle.std.proofs.lemmas.Bool.{lt-leb}
use Rattle.rules.specs.Answer.{◌>>◌, check}
use Rattle.rules.specs.Reader.{bytes, all}
use Rattle.rules.specs.Bytes.{ascii}
use Rattle.rules.specs.Load.{next, piece_count, concat, pieces, load, document_pieces, definition_pieces, list_of}
use Rattle.rules.specs.Calls.{padded, zeros, output_answer, test_load_result, test_load_of}
use Rattle.rules.proofs.Laws.Load.{count-bound, count-pieces, load-bound, load-all, load_low}
use Rattle.rules.specs.Compute.{rules}

-- SEED 0: 15 pieces; a document of 57 bytes, definitions of 74. A buffer that is a byte short is 11.
pub seed_0 :
    (piece_count 0 ≡ 15)
    × (test_load_of 0 false 57 ≡ record { number = 0; len = 57; out = bytes "#x\n#x.#raw(x)  #x.#let y = x\n#x #x.#link(\"u\")[t] #raw(x) " })
    × (test_load_of 0 true 74 ≡ record { number = 0; len = 74; out = bytes "#let x = \"10\"\n, (a:)\"\\q\"\"\\q\"(a:#let d = #let x = \"10\"\n\"\\q\"(a:none\"\\q\")\"\\q\"" })
    × (test_load_of 0 false 56 ≡ record { number = 11; len = 0; out = zeros 56 })
    × (test_load_of 0 true 73 ≡ record { number = 11; len = 0; out = zeros 73 })
unfolding rules
seed_0 = (refl, refl, refl, refl, refl)

-- ACCEPTED exactly where the load fits: its bytes, and zero behind them. Else 11.
module _ (seed : ℕ) (definitions : Bool) (n : ℕ) where
  pub fits : let t = load (list_of definitions) seed in length t ≤ n → test_load_of seed definitions n ≡ record { number = 0; len = length t; out = padded n t }
  unfolding test_load_of test_load_result output_answer check ◌>>◌
  fits h = rw (le-leb (length (load (list_of definitions) seed)) n h) refl

  pub short : n < length (load (list_of definitions) seed) → test_load_of seed definitions n ≡ record { number = 11; len = 0; out = zeros n }
  unfolding test_load_of test_load_result output_answer check ◌>>◌
  short h = rw (lt-leb (length (load (list_of definitions) seed)) n h) refl

-- LENGTH, for every list of pieces and every seed: the sum of the pieces', of which there are 1 to 32.
unfoldable pub sum : List ℕ → ℕ
sum [] = 0
sum (n ∷ ns) = n + sum ns

length-concat : (ps : List (List ℕ)) → length (concat ps) ≡ sum (map length ps)
unfolding concat sum
length-concat [] = refl
length-concat (p ∷ ps) = length-append p (concat ps) ∙ ap (λ n. length p + n) (length-concat ps)

module _ (list : List (List ℕ)) (seed : ℕ) where
  pub length-sum : length (load list seed) ≡ sum (map length (pieces list seed))
  unfolding load
  length-sum = length-concat (pieces list seed)

  pub counted : (length (pieces list seed) ≡ piece_count seed) × (1 ≤ piece_count seed) × (piece_count seed ≤ 32)
  unfolding pieces
  counted = let b = count-bound seed in (count-pieces list (piece_count seed) (next seed), b.0, b.1)

  -- At most 32 times the longest piece.
  pub bounded : (m : ℕ) → all (λ p. leb (length p) m) list ≡ true → length (load list seed) ≤ 32 * m
  bounded m h = load-bound list seed m h

-- ENOUGH: no piece of either list has more than 14 bytes, so no load has more than 448, and so many bytes, lent once, are enough for every seed and both lists.
pub at_most_448 : (seed : ℕ) (definitions : Bool) → length (load (list_of definitions) seed) ≤ 448
unfolding list_of document_pieces definition_pieces all
at_most_448 seed true = bounded definition_pieces seed 14 refl
at_most_448 seed false = bounded document_pieces seed 14 refl

pub enough : (seed : ℕ) (definitions : Bool) (n : ℕ) → 448 ≤ n → (test_load_of seed definitions n).number ≡ 0
enough seed definitions n h = ap (λ r. r.number) (fits seed definitions n (omega (arith, at_most_448 seed definitions)))

-- A TEXT of 01: no byte from 128, so the rule for a given text (6) holds of a load.
pub ascii-load : (seed : ℕ) (definitions : Bool) → all ascii (load (list_of definitions) seed) ≡ true
unfolding list_of document_pieces definition_pieces all ascii
ascii-load seed true = load-all ascii definition_pieces seed refl
ascii-load seed false = load-all ascii document_pieces seed refl

-- LOW BITS: seeds that agree in their low 21 bits have the same load, so a list has at most 2 ^ 21 loads.
pub low_bits : (list : List (List ℕ)) (s t : ℕ) → s % 2 ^ 21 ≡ t % 2 ^ 21 → load list s ≡ load list t
low_bits list s t h = load_low list s t h
