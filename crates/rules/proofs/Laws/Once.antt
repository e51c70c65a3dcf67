-- What a refused step is: a call or include mark is read whole, its file opened, before its first byte is output.
use Rattle.std.specs.Prelude.{◌≡◌, ◌≢◌, ◌⊎◌, Bool}
use Rattle.std.proofs.Math.Path.{refl}
use Rattle.std.proofs.Common.{sym, true≢false}
use Rattle.std.proofs.Math.Logic.{inl, inr}
use mathlib.Core.List.{List, [], ◌∷◌}
use Rattle.std.proofs.Math.Bool.{true, false}
use Prim.Native.Nat.{ℕ, zero, suc}
use native.Mathlib.Omega.{arith}
use Rattle.rules.specs.Answer.{Answer, refused, accepted, check}
use Rattle.rules.specs.Answer
use Rattle.rules.specs.Reader.{Reader, ret, if_r, ◌>>=◌, ◌>>◌, bytes, all, skip, mark}
use Rattle.rules.specs.Run.{Emit, ok, put, fail, and_then, unrefused, Did}
use Rattle.rules.specs.Bytes.{ascii, join, parent, trim}
use Rattle.rules.specs.Files.{View, fetch, plain, opened}
use Rattle.rules.specs.Includes.{commented, Quoted, unquoted, quoted, quote, Source, no_paren, no_path, no_language, source, source_arguments, to_newline, fenced, wrote, copied, copy_byte, included, include_of, include_mark, source_of, source_mark, include_step, inside_file}
use Rattle.rules.specs.Sheet.{Records}
use Rattle.rules.specs.Expansion.{Call, hands_back, refuses, outputs, writes, binds, call_did, calling, call_step, import_step, let_step, reference_step, copy_step, expansion_step}
use Rattle.rules.proofs.Laws.Refusals.{Yields, yields_if, yields-bind, yields-then}

-- At most one piece, and no refusal behind it.
unfoldable pub once : Emit → Bool
once ok = true
once (put o ok) = true
once (put o (put p e)) = false
once (put o (fail k)) = false
once (fail k) = true

pub refused_alone : (e : Emit) → once e ≡ true → unrefused e ≡ false → (k : ℕ) × (e ≡ fail k)
unfolding once unrefused
refused_alone ok o h = absurd (true≢false h)
refused_alone (put p ok) o h = absurd (true≢false h)
refused_alone (put p (put q e)) o h = absurd (true≢false (sym o))
refused_alone (put p (fail k)) o h = absurd (true≢false (sym o))
refused_alone (fail k) o h = (k, refl)

unfoldable did_once : Did Records → Bool
did_once d = once d.emit

call-once : (s : Records) (shown : List ℕ) (c : Call) (u t : List ℕ) → did_once (call_did s shown c u t).0 ≡ true
unfolding call_did did_once once
call-once s shown hands_back u t = refl
call-once s shown (refuses k) u t = refl
call-once s shown (outputs w o) u t = refl

once-calling : (s : Records) (shown : List ℕ) (call : Reader Call) → Yields did_once (calling s shown call)
unfolding calling
once-calling s shown call = record { yields = λ t. call-once s shown ((skip >> call) t).0 ((skip >> call) t).1 t }

once-writes : (s : Records) (o : List ℕ) → Yields did_once (ret (writes s o))
unfolding ret writes did_once once
once-writes s o = record { yields = λ t. refl }

once-binds : (s : Records) → Yields did_once (ret (binds s))
unfolding ret binds did_once once
once-binds s = record { yields = λ t. refl }

once_copy : (s : Records) → Yields did_once (copy_step s)
unfolding copy_step binds writes did_once once
once_copy s = record { yields = go }
  where
    go : (t : List ℕ) → did_once (copy_step s t).0 ≡ true
    go [] = refl
    go (x ∷ xs) = refl

once-step : (v : View) (s : Records) → Yields did_once (expansion_step v s)
unfolding expansion_step import_step let_step call_step reference_step
once-step v s = search (yields-bind, yields-then, yields_if, once-writes, once-binds, once_copy, once-calling) depth 20

pub expansion-once : (v : View) (s : Records) (t : List ℕ) → once (expansion_step v s t).0.emit ≡ true
unfolding did_once
expansion-once v s t = (once-step v s).yields t

-- THE INCLUDES. A refused step is the refusal alone; or a file p was opened with the text c, a level being left, and the step is what that text
-- comes to, then a newline.
module _ (v : View) (l : ℕ) where
  abbrev pub Whole : Emit → Type 0
  Whole e = unrefused e ≡ false → ((k : ℕ) × (e ≡ fail k)) ⊎ ((p : List ℕ) × (c : List ℕ) × (opened v p ≡ accepted c) × (l ≢ 0) × (e ≡ and_then (inside_file v l (parent p) c) (put (bytes "\n") ok)))

  one_piece : (o : List ℕ) → Whole (put o ok)
  unfolding unrefused
  one_piece o h = absurd (true≢false h)

  fenced-whole : (a : List ℕ) (x : Answer (List ℕ)) → Whole (fenced a x)
  unfolding fenced
  fenced-whole a (refused k) h = inl (k, refl)
  fenced-whole a (accepted c) h = one_piece _ h

  -- A file that was fetched: 7, then 6, then its text.
  fetched-whole : (g p c : List ℕ) (m : ℕ) (w : Bool) → l ≡ m → all ascii c ≡ w → fetch v p ≡ accepted c → Whole (included v (inside_file v l) g p (accepted c))
  unfolding included inside_file and_then opened plain check Answer.◌>>=◌ Answer.◌>>◌
  fetched-whole g p c zero w n a f h = inl (7, rw n)
  fetched-whole g p c (suc m) false n a f h = inl (6, rw (n, a, inside_file) refl)
  fetched-whole g p c (suc m) true n a f h = inr (p, c, rw (f, a), λ z. omega arith, refl)

  included-whole : (g p : List ℕ) (x : Answer (List ℕ)) → fetch v p ≡ x → Whole (included v (inside_file v l) g p x)
  unfolding included
  included-whole g p (refused k) f h = inl (k, refl)
  included-whole g p (accepted c) f h = fetched-whole g p c l (all ascii c) refl refl f h

  module _ (g : List ℕ) where
    include_whole : (q : Quoted) (u t : List ℕ) → Whole (include_of v (inside_file v l) g q u t).0.emit
    unfolding include_of wrote
    include_whole unquoted u t h = one_piece _ h
    include_whole (quoted p) u t h = included-whole g (join g (trim p)) (fetch v (join g (trim p))) refl h

    source-whole : (q : Source) (w u t : List ℕ) → Whole (source_of v (inside_file v l) g q w u t).0.emit
    unfolding source_of wrote
    source-whole no_paren w u t h = one_piece _ h
    source-whole no_path w u t h = one_piece _ h
    source-whole (no_language p) w u t h = fenced-whole [] _ h
    source-whole (source p a) w u t h = fenced-whole a _ h

    copy_whole : (s t : List ℕ) → Whole (copy_byte s t).0.emit
    unfolding copy_byte copied wrote
    copy_whole s [] h = one_piece _ h
    copy_whole s (x ∷ xs) h = one_piece _ h

    -- Either of two readers.
    either-whole : (c : Bool) (a b : Reader (Did (List ℕ))) (t : List ℕ) → Whole (a t).0.emit → Whole (b t).0.emit → Whole (if_r c a b t).0.emit
    unfolding if_r
    either-whole true a b t p q = p
    either-whole false a b t p q = q

    pub include_step-whole : (s t : List ℕ) → Whole (include_step v (inside_file v l) g s t).0.emit
    unfolding include_step include_mark source_mark ret copied wrote ◌>>=◌
    include_step-whole s t =
        let i = mark (bytes "#include") t in
        let j = mark (bytes "#source-include") i.1 in
        either-whole i.0 _ _ i.1
        (either-whole (commented s) _ _ i.1 (one_piece _) (include_whole (quote i.1).0 (quote i.1).1 i.1))
        (either-whole j.0 _ _ j.1
        (either-whole (commented s) _ _ j.1 (one_piece _) (source-whole (source_arguments j.1).0 (source_arguments j.1).1 (to_newline j.1).1 j.1))
        (copy_whole s j.1))
