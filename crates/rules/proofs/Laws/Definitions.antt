-- Files of definitions (01, sections 7 and 8): every refusal has a number of section 8, and the sheet of an accepted file keeps the layout and its limit.
use Rattle.std.specs.Prelude.{◌≡◌, Bool}
use Rattle.std.proofs.Math.Path.{refl}
use mathlib.Core.List.{List, [], ◌∷◌}
use Rattle.std.proofs.Math.Bool.{true, false}
use Rattle.std.proofs.Math.Option.{Option, none, some}
use Prim.Native.Nat.{ℕ, zero, suc, ◌-◌}
use Rattle.std.proofs.Common.{arith}
use Rattle.std.proofs.Math.Dec.{leb}
use Rattle.std.proofs.Math.ListN.{length}
use Rattle.rules.specs.Answer.{Answer, refused, accepted, is_refusal, ◌>>=◌, ◌>>◌, check}
use Rattle.rules.specs.Reader.{all}
use Rattle.rules.specs.Run.{Step, Trace, run, final, limited}
use Rattle.rules.specs.Bytes.{ascii, word, is_path, join, parent}
use Rattle.rules.specs.Files.{View, File, absent, folder, file}
use Rattle.rules.specs.Sheet.{Value, Records, end, rec, encode, sheet_length, good_value, good_records, resolve, set}
use Rattle.rules.specs.Definitions.{Names, star, listed, definition_step}
use Rattle.rules.specs.Imports.{bind_one, bind_if, bind_all, bind_listed, bind_names, import_file, imported, file_sheet, imported_sheet, definitions}
use Rattle.rules.proofs.Laws.Bool.{and_l, and_r, and_i, leb-true}
use Rattle.rules.proofs.Laws.Answer.{accepted-same, check_inv, bind_inv}
use Rattle.rules.proofs.Laws.Numbers.{numbered, numbered_e, numbered_t, limited-numbered}
use Rattle.rules.proofs.Laws.Limit.{limited-text}
use Rattle.rules.proofs.Laws.Texts.{all_tail}
use Rattle.rules.proofs.Laws.Keep.{run-keeps}
use Rattle.rules.proofs.Laws.Sheet.{good-parts, resolve-good, set-good, Kept}
use Rattle.rules.proofs.Laws.Values.{numbered_or, Reads, did_has, sheet_good, of_words, reads_definition}

-- ANSWERS: refused with a number of section 8, or accepted with what has p.
module _ {A : Type 0} (p : A → Bool) where
  or-numbered : (x : Answer A) → numbered_or p x ≡ true → numbered x ≡ true
  unfolding numbered_or numbered
  or-numbered (refused k) h = h
  or-numbered (accepted a) h = refl

  or-accepted : (x : Answer A) {a : A} → numbered_or p x ≡ true → x ≡ accepted a → p a ≡ true
  unfolding numbered_or
  or-accepted x h e = rw e at h

  or_intro : (x : Answer A) → numbered x ≡ true → ((a : A) → x ≡ accepted a → p a ≡ true) → numbered_or p x ≡ true
  unfolding numbered_or numbered
  or_intro (refused k) n f = n
  or_intro (accepted a) n f = f a refl

  or-check : (k : ℕ) (c : Bool) (x : Answer A) → is_refusal k ≡ true → (c ≡ true → numbered_or p x ≡ true) → numbered_or p (check k c >> x) ≡ true
  unfolding check ◌>>◌ numbered_or
  or-check k true x h f = f refl
  or-check k false x h f = h

  or-bind : {B : Type 0} (q : B → Bool) (x : Answer A) (f : A → Answer B) → numbered_or p x ≡ true → ((a : A) → p a ≡ true → numbered_or q (f a) ≡ true) → numbered_or q (x >>= f) ≡ true
  unfolding ◌>>=◌ numbered_or
  or-bind q (refused k) f h g = h
  or-bind q (accepted a) f h g = g a h

-- RUNS over a text of bytes below 128, of steps that keep p: every refusal has a number of section 8, and the last state has p.
module _ {S : Type 0} (p : S → Bool) where
  record RunHas (t : Trace S) : Type 0 where
    numbers : numbered_t t ≡ true
    last : p (final t) ≡ true

  run-has : (f : Step S) → ((s : S) → p s ≡ true → Reads (did_has p) (f s)) → (t : List ℕ) (s : S) (k : ℕ) → all ascii t ≡ true → p s ≡ true → RunHas (run f s k t)
  unfolding run numbered_t final did_has
  run-has f h [] s k e q = record { numbers = refl; last = q }
  run-has f h (x ∷ xs) s (suc k) e q = run-has f h xs s k (all_tail ascii x xs e) q
  run-has f h (x ∷ xs) s zero e q =
      let d = (f s (x ∷ xs)).0 in
      let a = ((h s q).reads (x ∷ xs) e).answer in
      let r = run-has f h xs d.state (length xs - length (f s (x ∷ xs)).1) (all_tail ascii x xs e) (and_r (numbered_e d.emit) (p d.state) a) in
      record { numbers = and_i (numbered_e d.emit) _ (and_l (numbered_e d.emit) (p d.state) a) r.numbers; last = r.last }

  limited-has : (size : S → ℕ) (L full r : ℕ) (t : Trace S) → is_refusal full ≡ true → RunHas t → numbered_or (λ y. p y.1) (limited size L full r t) ≡ true
  limited-has size L full r t q h = or_intro (λ y. p y.1) _ (limited-numbered size L full q t r h.numbers) (λ y a. rw (limited-text size L full t r a) h.last)

-- BINDING names of good records in good records.
module _ (L : ℕ) where
  one-good : (s : Records) (n : List ℕ) (w : Value) → sheet_good s ≡ true → all word n ≡ true → good_value w 6 ≡ true → numbered_or sheet_good (bind_one L s n w) ≡ true
  unfolding bind_one numbered_or is_refusal
  one-good s n w h e q = or-check sheet_good 9 (leb (sheet_length (set s n w)) L) _ refl (λ l. set-good s word 6 n w h e q)

  if_good : (s r : Records) (n : List ℕ) (x : Option Value) → resolve r n ≡ x → sheet_good s ≡ true → sheet_good r ≡ true → all word n ≡ true → numbered_or sheet_good (bind_if L s n x) ≡ true
  unfolding bind_if numbered_or
  if_good s r n none e h g k = h
  if_good s r n (some w) e h g k = one-good s n w h k (resolve-good r word 6 n w g e)

  all-good : (r s : Records) → sheet_good s ≡ true → sheet_good r ≡ true → numbered_or sheet_good (bind_all L s r) ≡ true
  unfolding bind_all numbered_or
  all-good end s h g = h
  all-good (rec n w r) s h g =
      let k = good-parts n w r word 6 g in
      or-bind sheet_good sheet_good (bind_one L s n w) _ (one-good s n w h k.name k.value) (λ z q. all-good r z q k.later)

  listed-good : (ns : List (List ℕ)) (r s : Records) → sheet_good s ≡ true → sheet_good r ≡ true → all (all word) ns ≡ true → numbered_or sheet_good (bind_listed L s (resolve r) ns) ≡ true
  unfolding bind_listed numbered_or all
  listed-good [] r s h g k = h
  listed-good (n ∷ ns) r s h g k =
      or-bind sheet_good sheet_good (bind_if L s n (resolve r n)) _ (if_good s r n (resolve r n) refl h g (and_l (all word n) (all (all word) ns) k)) (λ z q. listed-good ns r z q g (and_r (all word n) (all (all word) ns) k))

  names-good : (n : Names) (r s : Records) → sheet_good s ≡ true → sheet_good r ≡ true → of_words n ≡ true → numbered_or sheet_good (bind_names L s r n) ≡ true
  unfolding bind_names of_words
  names-good star r s h g k = all-good r s h g
  names-good (listed ns) r s h g k = listed-good ns r s h g k

-- FILES. inside: the sheet of an imported file.
module _ (L : ℕ) (v : View) where
  module _ (inside : List ℕ → List ℕ → Answer Records) (inner : (g c : List ℕ) → numbered_or sheet_good (inside g c) ≡ true) where
    import-good : (q : List ℕ) (x : File) (s : Records) (n : Names) → sheet_good s ≡ true → of_words n ≡ true → numbered_or sheet_good (import_file L v inside q x s n) ≡ true
    unfolding import_file numbered_or is_refusal
    import-good q absent s n h k = h
    import-good q folder s n h k = refl
    import-good q (file c) s n h k = or-bind sheet_good sheet_good (inside (parent q) c) _ (inner (parent q) c) (λ r g. names-good L n r s h g k)

    imported-good : (g : List ℕ) (s : Records) (p : List ℕ) (n : Names) → sheet_good s ≡ true → of_words n ≡ true → numbered_or sheet_good (imported L v inside g s p n) ≡ true
    unfolding imported is_refusal
    imported-good g s p n h k = or-check sheet_good 4 (is_path (join g p)) _ refl (λ e. import-good (join g p) (v (join g p)) s n h k)

    file-good : (g c : List ℕ) → numbered_or sheet_good (file_sheet L v inside g c) ≡ true
    unfolding file_sheet numbered_or is_refusal good_records
    file-good g c =
        let f = definition_step L (imported L v inside g) in
        or-check sheet_good 6 (all ascii c) _ refl (λ e.
        or-bind (λ y. sheet_good y.1) sheet_good (limited sheet_length L 11 0 (run f end 0 c)) _
        (limited-has sheet_good sheet_length L 11 0 (run f end 0 c) refl (run-has sheet_good f (reads_definition L (imported L v inside g) (imported-good g)) c end 0 e refl)) (λ y h. h))

  imported-sheet-good : (l : ℕ) (g c : List ℕ) → numbered_or sheet_good (imported_sheet L v l g c) ≡ true
  unfolding imported_sheet numbered_or is_refusal
  imported-sheet-good zero g c = refl
  imported-sheet-good (suc l) g c = file-good (imported_sheet L v l) (imported-sheet-good l) g c

  definitions-good : (g c : List ℕ) → numbered_or sheet_good (definitions L v g c) ≡ true
  unfolding definitions
  definitions-good g c = file-good (imported_sheet L v 6) (imported-sheet-good 6) g c

  end-small : leb (sheet_length end) L ≡ true
  unfolding sheet_length encode
  end-small = leb-true 0 L (omega arith)

  bytes_small : (g c : List ℕ) (s : Records) → definitions L v g c ≡ accepted s → leb (sheet_length s) L ≡ true
  unfolding definitions file_sheet
  bytes_small g c s a =
      let f = definition_step L (imported L v (imported_sheet L v 6) g) in
      let i = check_inv 6 (all ascii c) _ a in
      let j = bind_inv (limited sheet_length L 11 0 (run f end 0 c)) _ i.1 in
      rw (accepted-same j.2) at (run-keeps sheet_length L 11 f (λ z. leb (sheet_length z) L ≡ true) (λ z x xs e q l. l) c end 0 0 j.0 i.0 end-small j.1)

  -- Every refusal has a number of section 8.
  pub definitions-numbered : (g c : List ℕ) → numbered (definitions L v g c) ≡ true
  definitions-numbered g c = or-numbered sheet_good (definitions L v g c) (definitions-good g c)

  -- The sheet of an accepted file has good records, and at most L bytes.
  pub definitions-kept : (g c : List ℕ) (s : Records) → definitions L v g c ≡ accepted s → Kept L s
  definitions-kept g c s a = record { good = or-accepted sheet_good (definitions L v g c) (definitions-good g c) a; small = bytes_small g c s a }
