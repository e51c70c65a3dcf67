-- Sheet and lookup (01, section 2): the sheet as a tree of records, its bytes, its layout; lookup, and binding a name.
use Rattle.std.specs.Prelude.{Bool, true, false, ◌&&◌, List, [], ◌∷◌, ◌++◌, ℕ, zero, suc, ◌+◌, ◌/◌, ◌%◌, leb, eqb, length}
use Rattle.std.proofs.Math.Option.{Option, none, some}
use Rattle.rules.specs.Reader.{all, same}
use Rattle.rules.specs.Bytes.{ascii, word, name_byte, less, split}
use Rattle.rules.specs.Layout.{Parser, bind, ◌>>=◌, pure, broken, bit, byte, word16, field, field_if}

-- A value (the Rust's `TypstValue`): a text, none, or a dictionary. Records: names with their values, in order.
-- `nothing` is 01's none; `none` is the library's word for what is missing.
mutual
  pub data Value : Type 0 where
    text : List ℕ → Value
    nothing : Value
    dictionary : Records → Value

  pub data Records : Type 0 where
    end : Records
    rec : List ℕ → Value → Records → Records

-- THE BYTES. 16 bits, low byte first; a field with its length, or no field for the empty text; the mask that says so.
unfoldable pub word16_bytes : ℕ → List ℕ
word16_bytes n = n % 256 ∷ n / 256 ∷ []

unfoldable pub field_bytes : List ℕ → List ℕ
field_bytes [] = []
field_bytes (x ∷ xs) = word16_bytes (suc (length xs)) ++ (x ∷ xs)

unfoldable pub field_mask : ℕ → List ℕ → ℕ
field_mask b [] = 0
field_mask b (x ∷ xs) = b

unfoldable pub count : Records → ℕ
count end = 0
count (rec n v r) = suc (count r)

-- As masks: name 1, text 2, dictionary 4, none 8; nothing for the empty text.
unfoldable pub value_mask : Value → ℕ
value_mask (text t) = field_mask 2 t
value_mask nothing = 8
value_mask (dictionary r) = 4

-- A record: its map byte, its name (bit 0) and its value.
unfoldable mutual
  pub value_bytes : Value → List ℕ
  value_bytes (text t) = field_bytes t
  value_bytes nothing = []
  value_bytes (dictionary r) = word16_bytes (count r) ++ encode r

  pub encode : Records → List ℕ
  encode end = []
  encode (rec n v r) = (field_mask 1 n + value_mask v) ∷ (field_bytes n ++ (value_bytes v ++ encode r))

-- A sheet's length, and a value's: its record without a name (section 8).
unfoldable pub sheet_length : Records → ℕ
sheet_length r = length (encode r)

unfoldable pub value_length : Value → ℕ
value_length v = length (encode (rec [] v end))

-- THE LAYOUT. `records k` reads the k records of a dictionary.
module _ (records : ℕ → Parser Records) where
  -- k: the map byte without bit 0. 0 the empty text, 1 text, 2 dictionary, 4 none; any other sets two of bits 1 to 3, or one of bits 4 to 7.
  unfoldable pub value : ℕ → Parser Value
  value k =
      elim (eqb k 0) [
        | true ↦ pure (text [])
        | false ↦
            elim (eqb k 1) [
              | true ↦ (do t ← field word16; pure (text t))
              | false ↦
                  elim (eqb k 2) [
                    | true ↦ (do n ← word16; r ← records n; pure (dictionary r))
                    | false ↦
                        elim (eqb k 4) [ true ↦ pure nothing | false ↦ broken ]
                  ]
            ]
      ]

  unfoldable pub one_record : Parser (List ℕ × Value)
  one_record = do
    m ← byte
    n ← field_if (bit 0 m) word16
    v ← value (m / 2)
    pure (n, v)

  unfoldable pub some_records : ℕ → Parser Records
  some_records zero = pure end
  some_records (suc n) = do
    x ← one_record
    r ← some_records n
    pure (rec x.0 x.1 r)

  -- Up to the end of the bytes, at most n records.
  unfoldable pub all_records : ℕ → List ℕ → Option Records
  all_records zero [] = some end
  all_records zero (x ∷ xs) = none
  all_records (suc n) [] = some end
  all_records (suc n) (x ∷ xs) = bind (one_record (x ∷ xs)) (λ y. bind (all_records n y.1) (λ r. some (rec y.0.0 y.0.1 r)))

-- Six dictionary levels at most: l are left. A record has a byte or more, so `length b` records are enough below.
unfoldable pub levels : ℕ → ℕ → Parser Records
levels zero n = broken
levels (suc l) n = some_records (λ k. levels l k) n

unfoldable pub decode : List ℕ → Option Records
decode b = all_records (levels 6) (length b) b

-- Does n stand before the first name of r.
unfoldable pub before : List ℕ → Records → Bool
before n end = true
before n (rec m v r) = less n m

-- Names of bytes with p, strictly ascending; keys also hold `-`; texts hold bytes below 128; l dictionary levels at most.
unfoldable mutual
  pub good_value : Value → ℕ → Bool
  good_value (text t) l = all ascii t
  good_value nothing l = true
  good_value (dictionary r) zero = false
  good_value (dictionary r) (suc l) = good_records r name_byte l

  pub good_records : Records → (ℕ → Bool) → ℕ → Bool
  good_records end p l = true
  good_records (rec n v r) p l = all p n && before n r && good_value v l && good_records r p l

-- A sheet's records, or none where its bytes break the layout (refusal 3). At most 65,535 bytes. The levels are tested twice:
-- reading stops at the seventh, and `good_records` says it of the tree.
unfoldable pub sheet_of : List ℕ → Option Records
sheet_of b = bind (decode b) (λ r. elim (good_records r word 6 && leb (length b) 65535) [ true ↦ some r | false ↦ none ])

-- LOOKUP: what a text is found as: missing (`none`), none, a dictionary, or a text. Sections 3, 5 and 7 know names by a lookup alone (E1).
abbrev pub Lookup : Type 0
Lookup = List ℕ → Option Value

-- The value under a name or key.
unfoldable pub get : Records → List ℕ → Option Value
get end n = none
get (rec m v r) n = elim (same m n) [ true ↦ some v | false ↦ get r n ]

-- Each later piece is a key of a dictionary.
unfoldable pub get_fields : List (List ℕ) → Value → Option Value
get_fields [] v = some v
get_fields (k ∷ ks) (text t) = none
get_fields (k ∷ ks) nothing = none
get_fields (k ∷ ks) (dictionary r) = bind (get r k) (get_fields ks)

-- The first piece is a binding.
unfoldable pub get_pieces : Records → List (List ℕ) → Option Value
get_pieces s [] = none
get_pieces s (k ∷ ks) = bind (get s k) (get_fields ks)

-- A text is split at every `.`.
unfoldable pub resolve : Records → Lookup
resolve s t = get_pieces s (split "." t)

-- Kind: 0 missing, 1 none, 2 text, 3 dictionary. Text: empty unless kind 2.
unfoldable pub kind_of : Option Value → ℕ
kind_of none = 0
kind_of (some nothing) = 1
kind_of (some (text t)) = 2
kind_of (some (dictionary r)) = 3

unfoldable pub text_of : Option Value → List ℕ
text_of none = []
text_of (some nothing) = []
text_of (some (text t)) = t
text_of (some (dictionary r)) = []

-- BINDING a name: in its place by order, or instead of the value that it had.
unfoldable pub set : Records → List ℕ → Value → Records
set end n v = rec n v end
set (rec m w r) n v = elim (less n m) [ true ↦ rec n v (rec m w r) | false ↦ elim (less m n) [ true ↦ rec m w (set r n v) | false ↦ rec n v r ] ]
