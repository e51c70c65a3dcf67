-- Strings and expressions (01, section 3).
use Rattle.std.specs.Prelude.{Bool, true, false, List, [], ◌∷◌, ◌++◌, ℕ}
use Prim.Native.Char.{code}
use Rattle.rules.specs.Reader.{Reader, ret, if_r, ◌>>=◌, ◌>>◌, the, either, span, sees, skip, bytes, rounds, Turn, again, stop}
use Rattle.rules.specs.Bytes.{letter, line_blank, run_byte, underscored}
use Rattle.rules.specs.Sheet.{Lookup, text_of}

-- What `\c` stands for: four escapes; any other keeps both bytes.
unfoldable pub escape : ℕ → List ℕ
escape c =
    elim (the "n" c) [
      | true ↦ bytes "\n"
      | false ↦
          elim (the "t" c) [
            | true ↦ bytes "\t"
            | false ↦
                elim (the "\"" c) [
                  | true ↦ bytes "\""
                  | false ↦
                      elim (the "\\" c) [ true ↦ bytes "\\" | false ↦ code "\\" ∷ c ∷ [] ]
                ]
          ]
    ]

unfoldable pub onto : List ℕ → List ℕ × List ℕ → List ℕ × List ℕ
onto o r = (o ++ r.0, r.1)

-- A literal, from behind its `"` to the next unescaped `"` or the end. `true`: behind a `\`; as the very last byte it is copied.
unfoldable pub literal_from : List ℕ → Bool → List ℕ × List ℕ
literal_from [] false = ([], [])
literal_from [] true = (bytes "\\", [])
literal_from (x ∷ xs) true = onto (escape x) (literal_from xs false)
literal_from (x ∷ xs) false =
    elim (the "\"" x) [
      | true ↦ ([], xs)
      | false ↦
          elim (the "\\" x) [ true ↦ literal_from xs true | false ↦ onto (x ∷ []) (literal_from xs false) ]
    ]

unfoldable pub literal : Reader (List ℕ)
literal t = literal_from t false

module _ (look : Lookup) where
  -- A reference: a run with each `-` made `_`, then looked up; it stands for the text found, if any (E1).
  unfoldable pub reference : Reader (List ℕ)
  reference = do
    r ← span run_byte
    ret (text_of (look (underscored r)))

  -- Behind a term: skip line blanks; `+` begins another round, else stop.
  unfoldable pub plus : List ℕ → Reader (Turn (List ℕ) (List ℕ))
  plus a = do
    span line_blank
    p ← sees (the "+")
    if_r p (do skip; ret (again a)) (ret (stop a))

  -- Each round: skip line blanks; at `"` a literal; at a letter or `_` a reference; else stop.
  unfoldable pub expression_round : List ℕ → Reader (Turn (List ℕ) (List ℕ))
  expression_round a = do
    span line_blank
    q ← sees (the "\"")
    if_r q (do skip; v ← literal; plus (a ++ v)) (do
      l ← sees (either "_" letter)
      if_r l (do v ← reference; plus (a ++ v)) (ret (stop a)))

  unfoldable pub expression : Reader (List ℕ)
  expression = rounds expression_round (λ a. a) []
