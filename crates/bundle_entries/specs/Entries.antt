-- One entry of a bundle: what reading its fields promises.
use Rattle.std.specs.Prelude.{Option as Maybe, Some, None, ◌≡◌, refl, List, Bool, not, ◌&&◌, ℕ, ◌+◌, ◌-◌, ◌/◌, ◌^◌, ◌≤◌, ◌<◌, ltb, drop, get_or}
use Rattle.std.proofs.Math.Path.{sym}
use Rattle.std.proofs.Common.{ap, ◌∙◌}
use Rattle.std.proofs.Math.Bool.{true, false}
use Rattle.std.proofs.Math.Option.{none, some}
use native.Mathlib.Omega.{arith}
use Rattle.std.specs.Int.Bits.{bit_and}
use Rattle.std.proofs.lemmas.Nat.{and_mask}
use Rattle.std.proofs.Math.Dec.{eqb}
use Rattle.std.proofs.Math.ListN.{length, length-drop}
use Rattle.std.proofs.Math.Seq.{length-take-le}
use Rattle.rules.specs.Reader.{all, but}
use Rattle.rules.specs.Bytes.{holds, join}
use Rattle.rules.specs.Layout.{Parser, bind, ◌>>=◌, ◌>>◌, pure, broken, require, bit, remaining, byte, word16, field, field_if}
use Rattle.rules.specs.Bundle.{Entry, entry}
use Rattle.rules.proofs.Laws.Layout.{byte_at, byte-end}
use Rattle.scan.specs.Sets.{part, Within}
use Rattle.scan.specs.Fields.{IsField, FieldAt}
use Rattle.scan.specs.declared.Range.{Range}
use Rattle.bundle_entries.specs.declared.Head.{Head}

-- The part that the parser p reads at a place as a field that a map byte names, or not. One that is not named is empty, and stands there.
pub record IsOptional (b : List ℕ) (p : Parser (List ℕ)) (i : ℕ) (r : Range) : Type 0 where
  pub reads : p (drop i b) ≡ some (part b r.from r.to, drop r.to b)
  pub order : r.from ≤ r.to
  pub inside : i ≤ length b → r.to ≤ length b

-- That part, or that the parser finds none.
abbrev pub OptionalAt : List ℕ → Parser (List ℕ) → ℕ → Maybe Range → Type 0
OptionalAt b p i (Some r) = IsOptional b p i r
OptionalAt b p i None = p (drop i b) ≡ none

module _ (b : List ℕ) (i : ℕ) (len : Parser ℕ) {c on : Bool} (q : c ≡ on) where
  pub field_off : c ≡ false → IsOptional b (field_if on len) i (record { from = i; to = i })
  unfolding field_if pure
  field_off e = let z : i - i ≡ 0 = omega arith in record { reads = rw (sym q ∙ e, z); order = omega arith; inside = λ h. h }

  pub field_on : c ≡ true → (r : Maybe Range) → FieldAt b (field len) i r → OptionalAt b (field_if on len) i r
  unfolding field_if
  field_on e (Some r) k = record { reads = rw (sym q ∙ e) k.reads; order = k.within.order; inside = λ h. k.within.inside }
  field_on e None k = rw (sym q ∙ e) k

-- Bit k of a map byte is its lowest one, once it is moved down.
pub shifted : (k m : ℕ) → eqb (bit_and (m / 2 ^ k) 1) 1 ≡ bit k m
unfolding bit
shifted k m = ap (λ z. eqb z 1) (and_mask (m / 2 ^ k) 1)

-- A file name, for all that may be read behind it.
pub record IsName (b : List ℕ) (i : ℕ) (r : Range) : Type 0 where
  pub reads : (k : List ℕ → Parser Entry) → (field_if true byte >>= (λ f. require (not (holds "/" f)) >> k f)) (drop i b) ≡ k (part b r.from r.to) (drop r.to b)
  pub behind : i ≤ r.from
  pub within : Within b r

-- The file name at a place, or that there is none.
abbrev pub NameAt : List ℕ → ℕ → Maybe Range → Type 0
NameAt b i (Some r) = IsName b i r
NameAt b i None = (k : List ℕ → Parser Entry) → (field_if true byte >>= (λ f. require (not (holds "/" f)) >> k f)) (drop i b) ≡ none

module _ (b : List ℕ) (i : ℕ) where
  pub name-none : field byte (drop i b) ≡ none → NameAt b i None
  unfolding field_if ◌>>=◌ ◌>>◌ bind
  name-none e = λ k. rw e

  module _ {r : Range} (f : IsField b (field byte) i r) {c : Bool} (h : c ≡ not (holds "/" (part b r.from r.to))) where
    pub name-slash : c ≡ false → NameAt b i None
    unfolding field_if ◌>>=◌ ◌>>◌ bind require broken
    name-slash q = λ k. rw (f.reads, sym h ∙ q)

    pub name-some : c ≡ true → IsName b i r
    unfolding field_if ◌>>=◌ ◌>>◌ bind require pure
    name-some q = record { reads = λ k. rw (f.reads, sym h ∙ q); behind = f.behind; within = f.within }

-- An entry's fields, once the map byte m is read.
unfoldable pub entry_fields : ℕ → ℕ → Parser Entry
entry_fields n m = do
  g ← field_if (bit 0 m) byte
  f ← field_if true byte
  require (not (holds "/" f))
  c ← field_if (bit 2 m) word16
  r ← remaining
  pure (record { path = join g f; start = n - (length c + r); content = c })

-- The path and the entry that stand at such places.
abbrev pub path_at : List ℕ → Head → List ℕ
path_at b h = join (part b h.folder.from h.folder.to) (part b h.name.from h.name.to)

unfoldable pub entry_of : List ℕ → Head → Entry
entry_of b h = record { path = path_at b h; start = h.content.from; content = part b h.content.from h.content.to }

-- The parser p reads an entry at a place.
pub record IsHead (b : List ℕ) (p : Parser Entry) (i : ℕ) (h : Head) : Type 0 where
  pub reads : p (drop i b) ≡ some (entry_of b h, drop h.content.to b)
  pub folder : Within b h.folder
  pub name : Within b h.name
  pub content : Within b h.content

-- The entry that the parser p reads at a place, or that it finds none.
abbrev pub HeadAt : List ℕ → Parser Entry → ℕ → Maybe Head → Type 0
HeadAt b p i (Some h) = IsHead b p i h
HeadAt b p i None = p (drop i b) ≡ none

-- The ways through an entry's fields.
module _ (b : List ℕ) (m i : ℕ) where
  pub no-folder : field_if (bit 0 m) byte (drop i b) ≡ none → entry_fields (length b) m (drop i b) ≡ none
  unfolding entry_fields ◌>>=◌ bind
  no-folder h = rw h

  module _ {g : Range} (G : IsOptional b (field_if (bit 0 m) byte) i g) where
    pub no-name : NameAt b g.to None → entry_fields (length b) m (drop i b) ≡ none
    unfolding entry_fields ◌>>=◌ bind
    no-name N = rw G.reads (N _)

    module _ {f : Range} (F : IsName b g.to f) where
      behind : entry_fields (length b) m (drop i b) ≡ (field_if (bit 2 m) word16 >>= (λ c. remaining >>= (λ l. pure (record { path = join (part b g.from g.to) (part b f.from f.to); start = length b - (length c + l); content = c })))) (drop f.to b)
      unfolding entry_fields ◌>>=◌ bind
      behind = rw G.reads (F.reads _)

      pub no-content : field_if (bit 2 m) word16 (drop f.to b) ≡ none → entry_fields (length b) m (drop i b) ≡ none
      unfolding ◌>>=◌ bind
      no-content h = behind ∙ rw h

      pub all-fields : {c : Range} → IsOptional b (field_if (bit 2 m) word16) f.to c → IsHead b (entry_fields (length b) m) i (record { folder = g; name = f; content = c })
      unfolding entry_of bind ◌>>=◌ remaining pure
      all-fields {c} C =
          let e : c.to ≤ length b = C.inside F.within.inside in
          let k : c.to - c.from ≤ length (drop c.from b) = omega (arith, C.order, length-drop c.from b) in
          let z : length b - (length (part b c.from c.to) + length (drop c.to b)) ≡ c.from = omega (arith, C.order, length-take-le (c.to - c.from) (drop c.from b) k, length-drop c.to b) in
          record {
            reads = behind ∙ rw (C.reads, z);
            folder = record { order = G.order; inside = omega (arith, F.behind, F.within.order, F.within.inside) };
            name = F.within;
            content = record { order = C.order; inside = e };
          }

-- The ways through an entry.
module _ (b : List ℕ) (i : ℕ) where
  pub entry-end : length b ≤ i → entry (length b) (drop i b) ≡ none
  unfolding entry ◌>>=◌ bind
  entry-end k = rw (byte-end b i k)

  module _ (k : i < length b) {s : Bool} (e : s ≡ (ltb (get_or b i 0) 8 && bit 1 (get_or b i 0))) where
    entry-map : entry (length b) (drop i b) ≡ (require s >> entry_fields (length b) (get_or b i 0)) (drop (i + 1) b)
    unfolding entry entry_fields ◌>>=◌ bind
    entry-map = rw (byte_at b i k, e)

    pub entry-no-map : s ≡ false → entry (length b) (drop i b) ≡ none
    unfolding ◌>>◌ bind require broken
    entry-no-map t = entry-map ∙ rw t

    pub entry_map : s ≡ true → (h : Maybe Head) → HeadAt b (entry_fields (length b) (get_or b i 0)) (i + 1) h → HeadAt b (entry (length b)) i h
    unfolding ◌>>◌ bind require pure
    entry_map t (Some h) H = record { reads = entry-map ∙ rw t H.reads; folder = H.folder; name = H.name; content = H.content }
    entry_map t None H = entry-map ∙ rw t H

pub free-of_slash : (t : List ℕ) → all (but "/") t ≡ not (holds "/" t)
unfolding holds
free-of_slash t = at (all (but "/") t) refl
  where
    at : (c : Bool) → all (but "/") t ≡ c → all (but "/") t ≡ not (not (all (but "/") t))
    at true p = rw p
    at false p = rw p
