-- Every refusal has a number of section 8: the steps of includes, expansion and definitions.
use Rattle.std.specs.Prelude.{◌≡◌, Bool}
use Rattle.std.proofs.Math.Path.{refl}
use mathlib.Core.List.{List, [], ◌∷◌}
use Rattle.std.proofs.Math.Bool.{true, false}
use Prim.Native.Nat.{ℕ, zero, suc}
use Rattle.rules.specs.Answer.{Answer, refused, accepted, is_refusal}
use Rattle.rules.specs.Reader.{Reader, ret, if_r, ◌>>=◌, ◌>>◌, bytes, all, skip}
use Rattle.rules.specs.Run.{Emit, ok, put, Did}
use Rattle.rules.specs.Bytes.{ascii, trim, join}
use Rattle.rules.specs.Files.{View, fetch, opened}
use Rattle.rules.specs.Sheet.{Records, Lookup}
use Rattle.rules.specs.Includes.{Quoted, unquoted, quoted, quote, Source, no_paren, no_path, no_language, source, source_arguments, to_newline, fenced, wrote, copied, copy_byte, included, include_of, include_mark, source_text, source_of, source_mark, include_step, inside_file, includes}
use Rattle.rules.specs.Expansion.{Call, hands_back, refuses, outputs, Content, handed_back, no_content, given, raw_content, read_call, content, Arguments, stalled, arguments, raw_end, raw_arguments, raw, link_content_block, link_end, link, writes, binds, call_did, calling, call_step, import_step, let_step, reference_step, copy_step, expansion_step, expansion}
use Rattle.rules.proofs.Laws.Numbers.{numbered, numbered_e, numbered_t, numbered_e-and_then, run-numbered, emitted-numbered, numbered-fetch, numbered-opened}

-- What a reader answers has q.
pub record Yields {A : Type 0} (q : A → Bool) (r : Reader A) : Type 0 where
  pub yields : (t : List ℕ) → q (r t).0 ≡ true

module _ {A : Type 0} (q : A → Bool) where
  pub yields_ret : (a : A) → q a ≡ true → Yields q (ret a)
  unfolding ret
  yields_ret a h = record { yields = λ t. h }

  pub yields_if : (c : Bool) {r p : Reader A} → Yields q r → Yields q p → Yields q (if_r c r p)
  unfolding if_r
  yields_if true g k = g
  yields_if false g k = k

  pub yields-bind : {C : Type 0} (m : Reader C) {f : C → Reader A} → ((a : C) → Yields q (f a)) → Yields q (m >>= f)
  unfolding ◌>>=◌
  yields-bind m F = record { yields = λ t. (F (m t).0).yields (m t).1 }

  -- Where what was read before has p.
  pub yields_with : {C : Type 0} (p : C → Bool) {m : Reader C} {f : C → Reader A} → Yields p m → ((a : C) → p a ≡ true → Yields q (f a)) → Yields q (m >>= f)
  unfolding ◌>>=◌
  yields_with p {m} M F = record { yields = λ t. (F (m t).0 (M.yields t)).yields (m t).1 }

  pub yields-then : {C : Type 0} (m : Reader C) {f : Reader A} → Yields q f → Yields q (m >> f)
  unfolding ◌>>◌
  yields-then m F = record { yields = λ t. F.yields (m t).1 }

-- INCLUDES.
unfoldable did_numbered : {S : Type 0} → Did S → Bool
did_numbered d = numbered_e d.emit

fenced-numbered : (l : List ℕ) (x : Answer (List ℕ)) → numbered x ≡ true → numbered_e (fenced l x) ≡ true
unfolding fenced numbered_e numbered
fenced-numbered l (refused k) h = h
fenced-numbered l (accepted c) h = refl

numbers-copy_byte : (h : List ℕ) → Yields did_numbered (copy_byte h)
unfolding copy_byte copied wrote numbered_e did_numbered
numbers-copy_byte h = record { yields = go }
  where
    go : (t : List ℕ) → did_numbered (copy_byte h t).0 ≡ true
    go [] = refl
    go (x ∷ xs) = refl

module _ (v : View) (inside : List ℕ → List ℕ → Emit) (g : List ℕ) (inner : (f c : List ℕ) → numbered_e (inside f c) ≡ true) where
  included-numbered : (p : List ℕ) (x : Answer (List ℕ)) → numbered x ≡ true → numbered_e (included v inside g p x) ≡ true
  unfolding included numbered_e numbered
  included-numbered p (refused k) h = h
  included-numbered p (accepted c) h = numbered_e-and_then (inside _ c) (put (bytes "\n") ok) (inner _ c) refl

  include_numbered : (q : Quoted) (u t : List ℕ) → did_numbered (include_of v inside g q u t).0 ≡ true
  unfolding include_of wrote numbered_e did_numbered
  include_numbered unquoted u t = refl
  include_numbered (quoted p) u t = included-numbered (join g (trim p)) (fetch v (join g (trim p))) (numbered-fetch v (join g (trim p)))

  source-numbered : (q : Source) (w u t : List ℕ) → did_numbered (source_of v inside g q w u t).0 ≡ true
  unfolding source_of source_text wrote numbered_e did_numbered
  source-numbered no_paren w u t = refl
  source-numbered no_path w u t = refl
  source-numbered (no_language p) w u t = fenced-numbered [] (source_text v inside g p) (numbered-opened v _)
  source-numbered (source p l) w u t = fenced-numbered l (source_text v inside g p) (numbered-opened v _)

  numbers_include : Yields did_numbered (include_mark v inside g)
  unfolding include_mark
  numbers_include = record { yields = λ t. include_numbered (quote t).0 (quote t).1 t }

  numbers-source : Yields did_numbered (source_mark v inside g)
  unfolding source_mark
  numbers-source = record { yields = λ t. source-numbered (source_arguments t).0 (source_arguments t).1 (to_newline t).1 t }

  numbers-copied : (m : List ℕ) → Yields did_numbered (ret (copied m))
  unfolding ret copied wrote numbered_e did_numbered
  numbers-copied m = record { yields = λ t. refl }

  numbers-includes : (h : List ℕ) → Yields did_numbered (include_step v inside g h)
  unfolding include_step
  numbers-includes h = search (yields-bind, yields_if, numbers-copied, numbers_include, numbers-source, numbers-copy_byte) depth 12

module _ (v : View) where
  inside-at : (l : ℕ) (g c : List ℕ) (w : Bool) → all ascii c ≡ w → ((f d : List ℕ) → numbered_e (inside_file v l f d) ≡ true) → numbered_e (inside_file v (suc l) g c) ≡ true
  unfolding inside_file numbered_e is_refusal did_numbered
  inside-at l g c true p ih = rw (p, inside_file) (emitted-numbered (include_step v (inside_file v l) g) (λ s t. (numbers-includes v (inside_file v l) g ih s).yields t) c [] 0)
  inside-at l g c false p ih = rw (p, inside_file) refl

  inside-numbered : (l : ℕ) (g c : List ℕ) → numbered_e (inside_file v l g c) ≡ true
  unfolding inside_file numbered_e is_refusal
  inside-numbered zero g c = refl
  inside-numbered (suc l) g c = inside-at l g c (all ascii c) refl (inside-numbered l)

  pub includes-numbered : (g t : List ℕ) → numbered_t (includes v g t) ≡ true
  unfolding includes did_numbered
  includes-numbered g t = run-numbered (include_step v (inside_file v 6) g) (λ s u. (numbers-includes v (inside_file v 6) g (inside-numbered 6) s).yields u) t [] 0

-- EXPANSION.
unfoldable call_numbered : Call → Bool
call_numbered hands_back = true
call_numbered (refuses k) = is_refusal k
call_numbered (outputs w o) = true

unfoldable content_numbered : Content → Bool
content_numbered handed_back = true
content_numbered (no_content k) = is_refusal k
content_numbered (given o) = true

content-numbered : (x : Answer (List ℕ)) → numbered x ≡ true → content_numbered (raw_content x) ≡ true
unfolding raw_content content_numbered numbered
content-numbered (refused k) h = h
content-numbered (accepted o) h = refl

module _ (v : View) (look : Lookup) where
  numbers-read : (p : List ℕ) → Yields content_numbered (ret (raw_content (opened v p)))
  numbers-read p = yields_ret content_numbered (raw_content (opened v p)) (content-numbered (opened v p) (numbered-opened v p))

  numbers-given : (o : List ℕ) → Yields content_numbered (ret (given o))
  unfolding content_numbered
  numbers-given o = yields_ret content_numbered (given o) refl

  numbers-handed_back : Yields content_numbered (ret handed_back)
  unfolding content_numbered
  numbers-handed_back = yields_ret content_numbered handed_back refl

  numbers-content : Yields content_numbered (content v look)
  unfolding content read_call
  numbers-content = search (yields-bind, yields-then, yields_if, numbers-read, numbers-given, numbers-handed_back) depth 20

  numbers-raw_end : (o : List ℕ) (a : Arguments) → Yields call_numbered (raw_end o a)
  unfolding raw_end call_numbered is_refusal ◌>>=◌ ◌>>◌ ret
  numbers-raw_end o stalled = record { yields = λ t. refl }
  numbers-raw_end o (arguments l b) = record { yields = λ t. refl }

  numbers-arguments : (c : Content) → content_numbered c ≡ true → Yields call_numbered (raw_arguments v look c)
  unfolding raw_arguments call_numbered content_numbered
  numbers-arguments handed_back h = yields_ret call_numbered hands_back refl
  numbers-arguments (no_content k) h = yields_ret call_numbered (refuses k) h
  numbers-arguments (given o) h = yields-bind call_numbered _ (numbers-raw_end o)

  numbers-raw : Yields call_numbered (raw v look)
  unfolding raw
  numbers-raw = yields-then call_numbered _ (yields_with call_numbered content_numbered numbers-content numbers-arguments)

  numbers-says : (w : Bool) (o : List ℕ) → Yields call_numbered (ret (outputs w o))
  unfolding call_numbered
  numbers-says w o = yields_ret call_numbered (outputs w o) refl

  numbers-back : Yields call_numbered (ret hands_back)
  unfolding call_numbered
  numbers-back = yields_ret call_numbered hands_back refl

  numbers-link : Yields call_numbered (link look)
  unfolding link link_end link_content_block
  numbers-link = search (yields-bind, yields-then, yields_if, numbers-says, numbers-back) depth 20

call-numbered : (s : Records) (shown : List ℕ) (c : Call) (u t : List ℕ) → call_numbered c ≡ true → did_numbered (call_did s shown c u t).0 ≡ true
unfolding call_did call_numbered did_numbered numbered_e
call-numbered s shown hands_back u t h = refl
call-numbered s shown (refuses k) u t h = h
call-numbered s shown (outputs w o) u t h = refl

numbers-calling : (s : Records) (shown : List ℕ) {call : Reader Call} → Yields call_numbered call → Yields did_numbered (calling s shown call)
unfolding calling ◌>>◌
numbers-calling s shown {call} C = record { yields = λ t. call-numbered s shown (call (skip t).1).0 (call (skip t).1).1 t (C.yields (skip t).1) }

numbers-writes : (s : Records) (o : List ℕ) → Yields did_numbered (ret (writes s o))
unfolding ret writes did_numbered numbered_e
numbers-writes s o = record { yields = λ t. refl }

numbers-binds : (s : Records) → Yields did_numbered (ret (binds s))
unfolding ret binds did_numbered numbered_e
numbers-binds s = record { yields = λ t. refl }

numbers_copy : (s : Records) → Yields did_numbered (copy_step s)
unfolding copy_step binds writes did_numbered numbered_e
numbers_copy s = record { yields = go }
  where
    go : (t : List ℕ) → did_numbered (copy_step s t).0 ≡ true
    go [] = refl
    go (x ∷ xs) = refl

numbers-expansion : (v : View) (s : Records) → Yields did_numbered (expansion_step v s)
unfolding expansion_step import_step let_step call_step reference_step
numbers-expansion v s = search (yields-bind, yields-then, yields_if, numbers-writes, numbers-binds, numbers_copy, numbers-calling, numbers-raw, numbers-link) depth 20

pub expansion-numbered : (v : View) (s : Records) (t : List ℕ) → numbered_t (expansion v s t) ≡ true
unfolding expansion did_numbered
expansion-numbered v s t = run-numbered (expansion_step v) (λ z u. (numbers-expansion v z).yields u) t s 0
