-- Calls and expansion (01, section 5).
use Rattle.std.specs.Prelude.{Bool, true, false, not, ◌&&◌, ◌||◌, List, [], ◌∷◌, ◌++◌, ℕ}
use Rattle.std.proofs.Math.Option.{Option, none, some}
use Rattle.rules.specs.Answer.{Answer, refused, accepted}
use Rattle.rules.specs.Reader.{Reader, ret, if_r, ◌>>=◌, ◌>>◌, bytes, the, but, either, empty, same, span, sees, skip, mark, rounds, Turn, again, stop}
use Rattle.rules.specs.Run.{ok, put, fail, Did, Step, Trace, run}
use Rattle.rules.specs.Bytes.{blank, line_blank, letter, word, name_byte, run_byte, underscored, trim, trim_end}
use Rattle.rules.specs.Files.{View, opened}
use Rattle.rules.specs.Sheet.{Value, text, Records, Lookup, resolve, text_of, set}
use Rattle.rules.specs.Strings.{literal, reference, expression}

-- What a call comes to: handed back; refused; an output, and whether the call ends on its own `)` or `]`.
pub data Call : Type 0 where
  hands_back : Call
  refuses : ℕ → Call
  outputs : Bool → List ℕ → Call

-- THE RAW CALL, behind its `(`. Its content: handed back; refused; a text.
pub data Content : Type 0 where
  handed_back : Content
  no_content : ℕ → Content
  given : List ℕ → Content

unfoldable pub raw_content : Answer (List ℕ) → Content
raw_content (refused k) = no_content k
raw_content (accepted o) = given o

-- One leading `/` dropped.
unfoldable pub without_slash : List ℕ → List ℕ
without_slash p = (mark (bytes "/") p).1

module _ (v : View) (look : Lookup) where
  -- Behind `read`: without `(` handed back; an expression as path, the folder empty; on behind the next `)`. The file is opened
  -- here: its 4, 5 and 6 come before 8.
  unfoldable pub read_call : Reader Content
  read_call = do
    span blank
    p ← sees (the "(")
    if_r p
        (do
          skip
          path ← expression look
          span (but ")")
          skip
          ret (raw_content (opened v (without_slash path))))
        (ret handed_back)

  unfoldable pub content : Reader Content
  content = do
    q ← sees (the "\"")
    if_r q (do o ← expression look; ret (given o)) (do
      r ← mark (bytes "read")
      if_r r read_call (do o ← reference look; ret (given o)))

-- Its arguments: a round moved by nothing; or the language, and whether it is a block.
pub data Arguments : Type 0 where
  stalled : Arguments
  arguments : List ℕ → Bool → Arguments

abbrev pub Round : Type 0
Round = Reader (Turn (List ℕ × Bool) Arguments)

module _ (look : Lookup) where
  -- `lang` takes a literal at `"`, else a reference.
  unfoldable pub lang_value : Bool → Round
  lang_value b = do
    q ← sees (the "\"")
    if_r q (do skip; l ← literal; ret (again (l, b))) (do l ← reference look; ret (again (l, b)))

  -- `block` takes letters: on if `true`, else off.
  unfoldable pub block_value : List ℕ → Round
  block_value l = do
    w ← span letter
    ret (again (l, same w (bytes "true")))

  -- a: language and block so far. n: the argument's name. moved: has the round moved so far; named `lang` or `block` it has.
  unfoldable pub argument_value : List ℕ × Bool → List ℕ → Bool → Round
  argument_value a n moved =
      if_r (same n (bytes "lang")) (lang_value a.1)
      (if_r (same n (bytes "block")) (block_value a.0)
      (if_r moved (ret (again a)) (ret (stop stalled))))

  unfoldable pub argument_round : List ℕ × Bool → Round
  argument_round a = do
    g ← span (either "," blank)
    m ← sees (but ")")
    if_r m
        (do
          n ← span word
          c ← span (either ":" blank)
          argument_value a n (not (empty g && empty n && empty c)))
        (ret (stop (arguments a.0 a.1)))

-- Block: between fences, without trailing blanks. Else between single backticks.
unfoldable pub raw_text : List ℕ → List ℕ → Bool → List ℕ
raw_text o l true = bytes "```" ++ (l ++ (bytes "\n" ++ (trim_end o ++ bytes "\n```\n")))
raw_text o l false = bytes "`" ++ (o ++ bytes "`")

unfoldable pub raw_end : List ℕ → Arguments → Reader Call
raw_end o stalled = ret (refuses 8)
raw_end o (arguments l b) = do
  e ← sees (the ")")
  skip
  ret (outputs e (raw_text o l b))

module _ (v : View) (look : Lookup) where
  unfoldable pub raw_arguments : Content → Reader Call
  raw_arguments handed_back = ret hands_back
  raw_arguments (no_content k) = ret (refuses k)
  raw_arguments (given o) = do
    a ← rounds (argument_round look) (λ a. arguments a.0 a.1) ([], false)
    raw_end o a

  unfoldable pub raw : Reader Call
  raw = do
    span blank
    c ← content v look
    raw_arguments c

-- THE LINK CALL, behind its `(`. u: the address. w: the text.
unfoldable pub link_text : List ℕ → List ℕ → List ℕ
link_text u w = elim (empty w || same w u) [ true ↦ u | false ↦ bytes "#link(\"" ++ (u ++ (bytes "\")[" ++ (w ++ bytes "]"))) ]

-- At `)`: step over, skip line blanks, at `[` take text to `]` or the end and step over `]`. Without `[` the text is empty: the address.
unfoldable pub link_content_block : List ℕ → Reader Call
link_content_block u = do
  skip
  span line_blank
  b ← sees (the "[")
  if_r b
      (do
        skip
        w ← span (but "]")
        e ← sees (the "]")
        skip
        ret (outputs e (link_text u w)))
      (ret (outputs true u))

unfoldable pub link_end : List ℕ → Reader Call
link_end u = do
  span blank
  c ← sees (the ")")
  if_r c (link_content_block u) (do
    span (but ")")
    e ← sees (the ")")
    skip
    ret (outputs e u))

unfoldable pub link : Lookup → Reader Call
link look = do
  span blank
  l ← sees (the "<")
  if_r l (ret hands_back) (do u ← expression look; link_end u)

-- ONE STEP. What a step does: an output and the same sheet; another sheet and no output.
unfoldable pub writes : Records → List ℕ → Did Records
writes s o = record { whole = true; emit = put o ok; state = s }

unfoldable pub binds : Records → Did Records
binds s = record { whole = true; emit = ok; state = s }

-- A call has read to u, from its `(` at t. Handed back: mark and blanks, and on from the `(`; that is whole if it was before the end.
unfoldable pub call_did : Records → List ℕ → Call → List ℕ → List ℕ → Did Records × List ℕ
call_did s shown hands_back u t = (record { whole = not (empty u); emit = put shown ok; state = s }, t)
call_did s shown (refuses k) u t = (record { whole = true; emit = fail k; state = s }, u)
call_did s shown (outputs w o) u t = (record { whole = w; emit = put o ok; state = s }, u)

unfoldable pub calling : Records → List ℕ → Reader Call → Reader (Did Records)
calling s shown call t = let r = (skip >> call) t in call_did s shown r.0 r.1 t

-- `#raw`, `#link` (m): skip line blanks; without `(` output mark and blanks.
unfoldable pub call_step : List ℕ → Reader Call → Step Records
call_step m call s = do
  b ← span line_blank
  p ← sees (the "(")
  if_r p (calling s (m ++ b) call) (ret (writes s (m ++ b)))

-- `#import`: drop through the newline.
unfoldable pub import_step : Step Records
import_step s = do
  span (but "\n")
  skip
  ret (binds s)

-- What `#let` binds: the value that the text, unchanged, is looked up as; missing, the text itself.
unfoldable pub let_value : List ℕ → Option Value → Value
let_value t none = text t
let_value t (some w) = w

module _ (look : Lookup) where
  -- The name; line blanks and `=`; the rest of the line, trimmed. Drop the line.
  unfoldable pub let_step : Step Records
  let_step s = do
    span line_blank
    n ← span name_byte
    span (either "=" line_blank)
    r ← span (but "\n")
    skip
    ret (binds (set s (underscored n) (let_value (trim r) (look (trim r)))))

  -- `#` and a letter: the run. Before `(` output `#` and run unchanged; else the reference's text. `#` before any other byte is copied.
  unfoldable pub reference_step : Step Records
  reference_step s = do
    l ← sees letter
    if_r l
        (do
          r ← span run_byte
          p ← sees (the "(")
          if_r p (ret (writes s (bytes "#" ++ r))) (ret (writes s (text_of (look (underscored r))))))
        (ret (writes s (bytes "#")))

unfoldable pub copy_step : Step Records
copy_step s [] = (binds s, [])
copy_step s (x ∷ xs) = (writes s (x ∷ []), xs)

-- At each place, in this order, prefixes only. What the steps look up, they ask of one lookup (E1).
unfoldable pub expansion_step : View → Step Records
expansion_step v s = let look = resolve s in do
  i ← mark (bytes "#import")
  if_r i (import_step s) (do
    l ← mark (bytes "#let")
    if_r l (let_step look s) (do
      r ← mark (bytes "#raw")
      if_r r (call_step (bytes "#raw") (raw v look) s) (do
        k ← mark (bytes "#link")
        if_r k (call_step (bytes "#link") (link look) s) (do
          h ← mark (bytes "#")
          if_r h (reference_step look s) (copy_step s)))))

unfoldable pub expansion : View → Records → List ℕ → Trace Records
expansion v s t = run (expansion_step v) s 0 t
