-- Definitions (01, section 7). L: what a sheet, a value and a growing dictionary may have (section 8, refusal 9).
use Rattle.std.specs.Prelude.{true, false, List, [], ◌∷◌, ◌++◌, ℕ, zero, suc, leb}
use Rattle.rules.specs.Answer.{Answer, refused, accepted}
use Rattle.rules.specs.Reader.{Reader, ret, if_r, ◌>>=◌, ◌>>◌, bytes, the, but, either, span, sees, skip, mark, rounds, Turn, again, stop}
use Rattle.rules.specs.Run.{ok, fail, Did, Step}
use Rattle.rules.specs.Bytes.{blank, line_blank, letter, word, name_byte, underscored}
use Rattle.rules.specs.Sheet.{Value, text, nothing, dictionary, Records, end, set, value_length, Lookup, resolve}
use Rattle.rules.specs.Strings.{literal, expression}

-- A value over L is refused. None and `()` are not measured alone: what holds them is longer and is measured next.
unfoldable pub measured : ℕ → Value → Answer Value
measured L v = elim (leb (value_length v) L) [ true ↦ accepted v | false ↦ refused 9 ]

-- look: the lookup in what is bound so far (E1).
module _ (L : ℕ) (look : Lookup) where
  unfoldable pub text_value : Reader (Answer Value)
  text_value = do
    t ← expression look
    ret (measured L (text t))

  -- inner: the dictionary behind a `(`. At the end of the text every test fails and nothing is read: none.
  unfoldable pub value : Reader (Answer Value) → Reader (Answer Value)
  value inner = do
    span line_blank
    q ← sees (the "\"")
    if_r q text_value (do
      d ← mark (bytes "(")
      if_r d inner (do
        n ← mark (bytes "none")
        if_r n (ret (accepted nothing)) (do
          l ← sees (either "_" letter)
          if_r l text_value (do
            span (but "\n")
            ret (accepted nothing)))))

  -- The dictionary d with one entry more: refused where the value was, or where it is now over L.
  unfoldable pub grown : Records → List ℕ → Answer Value → Turn Records (Answer Value)
  grown d k (refused n) = stop (refused n)
  grown d k (accepted v) = elim (leb (value_length (dictionary (set d k v))) L) [ true ↦ again (set d k v) | false ↦ stop (refused 9) ]

  -- An entry: skip blanks and commas; `)` or the end closes; key, unchanged; skip `:` and blanks; value. Later keys replace.
  unfoldable pub entry_round : Reader (Answer Value) → Records → Reader (Turn Records (Answer Value))
  entry_round inner d = do
    span (either "," blank)
    m ← sees (but ")")
    if_r m
        (do
          k ← span name_byte
          span (either ":" blank)
          v ← value inner
          ret (grown d k v))
        (do skip; ret (stop (accepted (dictionary d))))

  -- Behind a `(`, with l dictionary levels left.
  unfoldable pub dictionary_value : ℕ → Reader (Answer Value)
  dictionary_value zero = ret (refused 7)
  dictionary_value (suc l) = rounds (entry_round (dictionary_value l)) (λ d. accepted (dictionary d)) end

-- What an import binds: all, or the words listed.
pub data Names : Type 0 where
  star : Names
  listed : List (List ℕ) → Names

-- Words parted by `,` with spaces; later empty words are dropped.
unfoldable pub listed_more : List (List ℕ) → List ℕ → List (List ℕ)
listed_more ws [] = ws
listed_more ws (x ∷ xs) = ws ++ ((x ∷ xs) ∷ [])

unfoldable pub word_round : List (List ℕ) → Reader (Turn (List (List ℕ)) Names)
word_round ws = do
  span (the " ")
  c ← mark (bytes ",")
  if_r c (do span (the " "); w ← span word; ret (again (listed_more ws w))) (ret (stop (listed ws)))

unfoldable pub names : Reader Names
names = do
  a ← mark (bytes "*")
  if_r a (ret star) (do w ← span word; rounds word_round listed (w ∷ []))

-- A step binds, and writes nothing; or it is refused.
unfoldable pub bound : Records → Answer Records → Did Records
bound s (refused k) = record { whole = true; emit = fail k; state = s }
bound s (accepted r) = record { whole = true; emit = ok; state = r }

unfoldable pub let_bound : Records → List ℕ → Answer Value → Did Records
let_bound s n (refused k) = bound s (refused k)
let_bound s n (accepted v) = bound s (accepted (set s n v))

-- imported s p n: the sheet s after the import of the names n from the path p.
module _ (L : ℕ) (imported : Records → List ℕ → Names → Answer Records) where
  -- `#import`, blanks, literal, blanks and `:`, names; without a literal nothing is bound. Drop the line's rest, newline left.
  unfoldable pub import_step : Step Records
  import_step s = do
    span blank
    q ← sees (the "\"")
    if_r q
        (do
          skip
          p ← literal
          span (either ":" blank)
          n ← names
          span (but "\n")
          ret (bound s (imported s p n)))
        (do span (but "\n"); ret (bound s (accepted s)))

  -- `#let`: as in section 5, but newlines count as blanks to skip; then a value.
  unfoldable pub let_step : Step Records
  let_step s = let look = resolve s in do
    span blank
    n ← span name_byte
    span (either "=" blank)
    w ← value L look (dictionary_value L look 6)
    ret (let_bound s (underscored n) w)

  -- `//` lines are skipped, and any other byte is, blanks among them.
  unfoldable pub definition_step : Step Records
  definition_step s = do
    c ← mark (bytes "//")
    if_r c (do span (but "\n"); ret (bound s (accepted s))) (do
      i ← mark (bytes "#import")
      if_r i (import_step s) (do
        l ← mark (bytes "#let")
        if_r l (let_step s) (do skip; ret (bound s (accepted s)))))
