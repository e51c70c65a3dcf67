-- The middle text of a text with bytes below 128 has bytes below 128.
use Rattle.std.specs.Prelude.{◌≡◌, Bool, not, ◌&&◌}
use Rattle.std.proofs.Math.Path.{refl}
use mathlib.Core.List.{List, [], ◌∷◌, ◌++◌}
use Rattle.std.proofs.Math.Bool.{true, false}
use Prim.Native.Nat.{ℕ, zero, suc, ◌-◌}
use Rattle.std.proofs.Math.ListN.{length}
use Rattle.rules.specs.Answer.{Answer, refused, accepted}
use Rattle.rules.specs.Reader.{Reader, ret, if_r, ◌>>=◌, ◌>>◌, bytes, the, but, all, empty, span, sees, skip}
use Rattle.rules.specs.Run.{Emit, ok, put, fail, and_then, pieces, Did, Step, run, emitted, written, ends_in_newline}
use Rattle.rules.specs.Bytes.{ascii, blank, trim, join}
use Rattle.rules.specs.Files.{View, fetch, plain, opened}
use Rattle.rules.specs.Includes.{Quoted, unquoted, quoted, quoted_if, quote, Source, no_paren, no_path, no_language, source, with_language, with_path, source_arguments, to_newline, last_newline, fenced, wrote, copied, copy_byte, included, include_of, include_mark, source_text, source_of, source_mark, include_step, inside_file, includes}
use Rattle.rules.proofs.Laws.Bool.{and_l, and_r, and_i}
use Rattle.rules.proofs.Laws.Answer.{accepted-same, check_inv, bind_inv}
use Rattle.rules.proofs.Laws.Texts.{all_append, all_tail, span-all, Clean, clean-span, clean-sees, clean-mark, clean-skip, clean-ret, clean-bind, clean-then}

unfoldable plain_e : Emit → Bool
plain_e ok = true
plain_e (put o e) = all ascii o && plain_e e
plain_e (fail k) = true

and_then-plain : (e f : Emit) → plain_e e ≡ true → plain_e f ≡ true → plain_e (and_then e f) ≡ true
unfolding plain_e and_then
and_then-plain ok f p q = q
and_then-plain (put o e) f p q = and_i (all ascii o) _ (and_l (all ascii o) (plain_e e) p) (and_then-plain e f (and_r (all ascii o) (plain_e e) p) q)
and_then-plain (fail k) f p q = refl

pieces-plain : (e : Emit) → plain_e e ≡ true → all ascii (pieces e) ≡ true
unfolding plain_e pieces all
pieces-plain ok p = refl
pieces-plain (put o e) p = all_append ascii o (pieces e) (and_l (all ascii o) (plain_e e) p) (pieces-plain e (and_r (all ascii o) (plain_e e) p))
pieces-plain (fail k) p = refl

module _ {S : Type 0} (f : Step S) (plain_step : (s : S) (x : ℕ) (xs : List ℕ) → all ascii (x ∷ xs) ≡ true → plain_e (f s (x ∷ xs)).0.emit ≡ true) where
  emitted_plain : (t : List ℕ) (s : S) (k : ℕ) → all ascii t ≡ true → plain_e (emitted (run f s k t)) ≡ true
  unfolding run emitted plain_e
  emitted_plain [] s k e = refl
  emitted_plain (x ∷ xs) s (suc k) e = emitted_plain xs s k (all_tail ascii x xs e)
  emitted_plain (x ∷ xs) s zero e =
      let r = f s (x ∷ xs) in
      and_then-plain r.0.emit _ (plain_step s x xs e) (emitted_plain xs r.0.state (length xs - length r.1) (all_tail ascii x xs e))

  written-plain : (t : List ℕ) (s : S) (k : ℕ) → all ascii t ≡ true → all ascii (written (run f s k t)) ≡ true
  unfolding run written all
  written-plain [] s k e = refl
  written-plain (x ∷ xs) s (suc k) e = written-plain xs s k (all_tail ascii x xs e)
  written-plain (x ∷ xs) s zero e =
      let r = f s (x ∷ xs) in
      all_append ascii (pieces r.0.emit) _ (pieces-plain r.0.emit (plain_step s x xs e)) (written-plain xs r.0.state (length xs - length r.1) (all_tail ascii x xs e))

record Plain (r : Reader (Did (List ℕ))) : Type 0 where
  plainly : (t : List ℕ) → all ascii t ≡ true → plain_e (r t).0.emit ≡ true

plain_copied : (m : List ℕ) → all ascii m ≡ true → Plain (ret (copied m))
unfolding ret copied wrote plain_e
plain_copied m h = record { plainly = λ t e. and_i (all ascii m) true h refl }

plain_if : (c : Bool) {r q : Reader (Did (List ℕ))} → Plain r → Plain q → Plain (if_r c r q)
unfolding if_r
plain_if true g k = g
plain_if false g k = k

plain-bind : {A : Type 0} {m : Reader A} {f : A → Reader (Did (List ℕ))} → Clean ascii m → ((a : A) → Plain (f a)) → Plain (m >>= f)
unfolding ◌>>=◌
plain-bind {m} {f} M F = record { plainly = λ t e. (F (m t).0).plainly (m t).1 (M.clean t e) }

plain-copy_byte : (h : List ℕ) → Plain (copy_byte h)
unfolding copy_byte copied wrote plain_e all
plain-copy_byte h = record { plainly = go }
  where
    go : (t : List ℕ) → all ascii t ≡ true → plain_e (copy_byte h t).0.emit ≡ true
    go [] e = refl
    go (x ∷ xs) e = and_i _ true (and_i (ascii x) true (and_l (ascii x) (all ascii xs) e) refl) refl

-- What stands between quotes.
unfoldable between : Quoted → List ℕ
between unquoted = []
between (quoted p) = p

unfoldable language : Source → List ℕ
language no_paren = []
language no_path = []
language (no_language p) = []
language (source p l) = l

quoted_if-plain : (c : Bool) (p : List ℕ) → all ascii p ≡ true → all ascii (between (quoted_if c p)) ≡ true
unfolding quoted_if between all
quoted_if-plain true p h = h
quoted_if-plain false p h = refl

quote-plain : (t : List ℕ) → all ascii t ≡ true → all ascii (between (quote t).0) ≡ true
unfolding quote ◌>>=◌ ◌>>◌ ret
quote-plain t e =
    let u = (skip (span (but "\"") t).1).1 in
    let h : all ascii u ≡ true = (clean-skip ascii).clean (span (but "\"") t).1 (span-all ascii (but "\"") t e).rest in
    quoted_if-plain (sees (the "\"") (span (but "\"") u).1).0 (span (but "\"") u).0 (span-all ascii (but "\"") u h).stretch

clean-quote : Clean ascii quote
unfolding quote
clean-quote = search (clean-bind, clean-then, clean-ret, clean-span, clean-sees, clean-skip) depth 12

language-plain : (p : List ℕ) (q : Quoted) → all ascii (between q) ≡ true → all ascii (language (with_language p q)) ≡ true
unfolding with_language language between
language-plain p unquoted h = h
language-plain p (quoted l) h = h

path-plain : (p : Quoted) (t : List ℕ) → all ascii t ≡ true → all ascii (language (with_path p t).0) ≡ true
unfolding with_path ret ◌>>=◌ all language
path-plain unquoted t e = refl
path-plain (quoted p) t e = language-plain p (quote t).0 (quote-plain t e)

arguments-plain : (t : List ℕ) → all ascii t ≡ true → all ascii (language (source_arguments t).0) ≡ true
unfolding source_arguments ◌>>=◌ ◌>>◌
arguments-plain t e = at (sees (the "(") (span blank t).1).0 (sees (the "(") (span blank t).1).1 ((clean-sees ascii (the "(")).clean _ (span-all ascii blank t e).rest)
  where
    at : (c : Bool) (u : List ℕ) → all ascii u ≡ true → all ascii (language (if_r c (skip >> (quote >>= with_path)) (ret no_paren) u).0) ≡ true
    at true u h = unfold if_r in (path-plain (quote (skip u).1).0 (quote (skip u).1).1 (clean-quote.clean (skip u).1 ((clean-skip ascii).clean u h)))
    at false u h = unfold if_r ret language all in refl

last_newline-plain : (c : List ℕ) → all ascii (last_newline c) ≡ true
unfolding last_newline all ascii
last_newline-plain c = at (ends_in_newline c && not (empty c)) refl
  where
    at : (w : Bool) → (ends_in_newline c && not (empty c)) ≡ w → all ascii (last_newline c) ≡ true
    at true p = rw (p, last_newline) refl
    at false p = rw (p, last_newline) refl

-- An opened file's text has bytes below 128.
pub opened-plain : (v : View) (p c : List ℕ) → opened v p ≡ accepted c → all ascii c ≡ true
unfolding opened plain
opened-plain v p c h =
    let i = bind_inv (fetch v p) plain h in
    let j = check_inv _ (all ascii i.0) _ i.2 in
    rw (accepted-same j.1) at j.0

fenced-plain : (l : List ℕ) (x : Answer (List ℕ)) → all ascii l ≡ true → ((c : List ℕ) → x ≡ accepted c → all ascii c ≡ true) → plain_e (fenced l x) ≡ true
unfolding fenced plain_e all ascii
fenced-plain l (refused k) h s = refl
fenced-plain l (accepted c) h s =
    let n = last_newline c ++ bytes "```\n" in
    let e : all ascii n ≡ true = all_append ascii (last_newline c) (bytes "```\n") (last_newline-plain c) refl in
    let k : all ascii (bytes "\n" ++ (c ++ n)) ≡ true = all_append ascii c n (s c refl) e in
    and_i _ true (all_append ascii l (bytes "\n" ++ (c ++ n)) h k) refl

module _ (v : View) (inside : List ℕ → List ℕ → Emit) (g : List ℕ) (inner : (f c : List ℕ) → plain_e (inside f c) ≡ true) where
  included-plain : (p : List ℕ) (x : Answer (List ℕ)) → plain_e (included v inside g p x) ≡ true
  unfolding included plain_e all ascii
  included-plain p (refused k) = refl
  included-plain p (accepted c) = and_then-plain (inside _ c) (put (bytes "\n") ok) (inner _ c) refl

  include_plain : (q : Quoted) (u t : List ℕ) → plain_e (include_of v inside g q u t).0.emit ≡ true
  unfolding include_of wrote plain_e all ascii
  include_plain unquoted u t = refl
  include_plain (quoted p) u t = included-plain (join g (trim p)) (fetch v (join g (trim p)))

  plain_include : Plain (include_mark v inside g)
  unfolding include_mark
  plain_include = record { plainly = λ t e. include_plain (quote t).0 (quote t).1 t }

  source-plain : (q : Source) (w u t : List ℕ) → all ascii (language q) ≡ true → plain_e (source_of v inside g q w u t).0.emit ≡ true
  unfolding source_of source_text wrote plain_e all ascii language
  source-plain no_paren w u t h = refl
  source-plain no_path w u t h = refl
  source-plain (no_language p) w u t h = fenced-plain [] (source_text v inside g p) refl (λ c q. opened-plain v _ c q)
  source-plain (source p l) w u t h = fenced-plain l (source_text v inside g p) h (λ c q. opened-plain v _ c q)

  plain-source : Plain (source_mark v inside g)
  unfolding source_mark
  plain-source = record { plainly = λ t e. source-plain (source_arguments t).0 (source_arguments t).1 (to_newline t).1 t (arguments-plain t e) }

  plain-includes : (h : List ℕ) → Plain (include_step v inside g h)
  unfolding include_step all ascii
  plain-includes h = search (plain-bind, plain_if, plain_copied, plain_include, plain-source, plain-copy_byte, clean-mark) depth 12

module _ (v : View) where
  inside-at : (l : ℕ) (g c : List ℕ) (w : Bool) → all ascii c ≡ w → ((f d : List ℕ) → plain_e (inside_file v l f d) ≡ true) → plain_e (inside_file v (suc l) g c) ≡ true
  unfolding inside_file plain_e
  inside-at l g c true p ih = rw (p, inside_file) (emitted_plain (include_step v (inside_file v l) g) (λ s x xs h. (plain-includes v (inside_file v l) g ih s).plainly (x ∷ xs) h) c [] 0 p)
  inside-at l g c false p ih = rw (p, inside_file) refl

  inside-plain : (l : ℕ) (g c : List ℕ) → plain_e (inside_file v l g c) ≡ true
  unfolding inside_file plain_e
  inside-plain zero g c = refl
  inside-plain (suc l) g c = inside-at l g c (all ascii c) refl (inside-plain l)

  pub middle-plain : (g t : List ℕ) → all ascii t ≡ true → all ascii (written (includes v g t)) ≡ true
  unfolding includes
  middle-plain g t e = written-plain (include_step v (inside_file v 6) g) (λ s x xs h. (plain-includes v (inside_file v 6) g (inside-plain 6) s).plainly (x ∷ xs) h) t [] 0 e
