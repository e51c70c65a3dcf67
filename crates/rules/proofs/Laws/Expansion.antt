-- Every reader of the expansion obeys the law of readers, and every step of it the law of steps.
use Rattle.std.specs.Prelude.{◌≡◌, Bool, false, ℕ}
use Rattle.std.proofs.Math.Path.{refl}
use Rattle.std.proofs.Common.{sym, ap, ◌∙◌, true≢false, arith}
use mathlib.Core.List.{List, [], ◌∷◌, ◌++◌}
use Rattle.std.proofs.Math.Bool.{true}
use Rattle.rules.specs.Reader.{Reader, ◌>>◌, the, but, either, skip}
use Rattle.rules.specs.Run.{unrefused, all_whole, ends_in_newline}
use Rattle.rules.specs.Bytes.{blank, line_blank, letter, digit, word, name_byte, run_byte}
use Rattle.rules.specs.Files.{View}
use Rattle.rules.specs.Sheet.{Records, Lookup}
use Rattle.rules.specs.Strings.{reference, plus, expression_round, expression}
use Rattle.rules.specs.Expansion.{Call, hands_back, refuses, outputs, Content, handed_back, no_content, given, read_call, content, Arguments, stalled, arguments, lang_value, block_value, argument_value, argument_round, raw_end, raw_arguments, raw, link_content_block, link_end, link, call_did, calling, call_step, import_step, let_step, reference_step, copy_step, expansion_step, expansion}
use Rattle.rules.proofs.Laws.Limit.{join_runs}
use Rattle.rules.proofs.Laws.Read.{Some, newline-tail, Good, good-bind, good-skip, good-span, good-rounds, line-span, line-sees, line-mark, inline}
use Rattle.rules.proofs.Laws.Steps.{goods, good-sees, good-mark, Steps, steps-ret, steps-skip, steps_if, steps-bind, steps_then, run-append, Sure, sure-no, sure_if, sure-bind, sure-then, sure_close, surein-sure, surein-ret, surein_if, surein-bind, surein-then, sure-over, some-not, empty-append}

-- Does a call end on its own byte.
unfoldable ended : Call → Bool
ended hands_back = false
ended (refuses k) = false
ended (outputs w o) = w

module _ (look : Lookup) where
  good-reference : Good (reference look)
  unfolding reference
  good-reference = search goods

  good-plus : (a : List ℕ) → Good (plus look a)
  unfolding plus
  good-plus a = search goods

  good-expression_round : (a : List ℕ) → Good (expression_round look a)
  unfolding expression_round
  good-expression_round a = search (goods, good-plus, good-reference) depth 12

  pub good-expression : Good (expression look)
  unfolding expression
  good-expression = good-rounds (expression_round look) (λ a. a) good-expression_round []

  good-argument_value : (a : List ℕ × Bool) (n : List ℕ) (m : Bool) → Good (argument_value look a n m)
  unfolding argument_value lang_value block_value
  good-argument_value a n m = search (goods, good-reference) depth 12

  good-argument_round : (a : List ℕ × Bool) → Good (argument_round look a)
  unfolding argument_round
  good-argument_round a = search (goods, good-argument_value) depth 12

good-raw_end : (o : List ℕ) (a : Arguments) → Good (raw_end o a)
unfolding raw_end
good-raw_end o stalled = search goods
good-raw_end o (arguments l b) = search goods

sure-raw_end : (o : List ℕ) (a : Arguments) → Sure ended (raw_end o a)
unfolding raw_end ended
sure-raw_end o stalled = sure-no ended (refuses 8) refl
sure-raw_end o (arguments l b) = sure_close ended ")" _ (unfold the in refl) refl

module _ (v : View) (look : Lookup) where
  good-read_call : Good (read_call v look)
  unfolding read_call
  good-read_call = search (goods, good-expression) depth 12

  good-content : Good (content v look)
  unfolding content inline
  good-content = search (goods, good-expression, good-reference, good-read_call, good-mark) depth 12

  good-raw_arguments : (c : Content) → Good (raw_arguments v look c)
  unfolding raw_arguments
  good-raw_arguments handed_back = search goods
  good-raw_arguments (no_content k) = search goods
  good-raw_arguments (given o) = good-bind (good-rounds (argument_round look) (λ a. arguments a.0 a.1) (good-argument_round look) ([], false)) (good-raw_end o)

  good-raw : Good (raw v look)
  unfolding raw
  good-raw = search (goods, good-content, good-raw_arguments)

  sure-raw_arguments : (c : Content) → Sure ended (raw_arguments v look c)
  unfolding raw_arguments ended
  sure-raw_arguments handed_back = sure-no ended hands_back refl
  sure-raw_arguments (no_content k) = sure-no ended (refuses k) refl
  sure-raw_arguments (given o) = sure-bind ended (good-rounds (argument_round look) (λ a. arguments a.0 a.1) (good-argument_round look) ([], false)) (sure-raw_end o)

  sure-raw : Sure ended (raw v look)
  unfolding raw
  sure-raw = sure-then ended (good-span blank) (sure-bind ended good-content sure-raw_arguments)

good-link_content_block : (u : List ℕ) → Good (link_content_block u)
unfolding link_content_block
good-link_content_block u = search goods depth 12

good-link_end : (u : List ℕ) → Good (link_end u)
unfolding link_end
good-link_end u = search (goods, good-link_content_block) depth 12

good-link : (look : Lookup) → Good (link look)
unfolding link
good-link look = search (goods, good-expression, good-link_end) depth 12

sure-link_end : (u : List ℕ) → Sure ended (link_end u)
unfolding link_end link_content_block ended line_blank blank but
sure-link_end u = sure-then ended (good-span blank) (sure-over ended ")" _ _ (unfold the in refl)
    (surein-then ended (line-span line_blank refl) (surein-bind ended (line-sees (the "[")) (λ b. surein_if ended b
    (surein-sure ended (sure-then ended good-skip (sure-bind ended (good-span (but "]")) (λ w. sure_close ended "]" _ (unfold the in refl) refl))))
    (surein-ret ended (outputs true u)))))
    (sure-then ended (good-span (but ")")) (sure_close ended ")" _ (unfold the in refl) refl)))

sure-link : (look : Lookup) → Sure ended (link look)
unfolding link ended
sure-link look = sure-then ended (good-span blank) (sure-bind ended (good-sees (the "<")) (λ l. sure_if ended l (sure-no ended hands_back refl) (sure-bind ended (good-expression look) sure-link_end)))

call_at : (s : Records) (shown : List ℕ) (call : Reader Call) (C : Good call) (O : Sure ended call) (x : ℕ) (xs b : List ℕ) (c : Call) → (call xs).0 ≡ c → ends_in_newline xs ≡ true →
    (call_did s shown c (call xs).1 (x ∷ xs)).0.whole ≡ true → unrefused (call_did s shown c (call xs).1 (x ∷ xs)).0.emit ≡ true →
    call_did s shown (call (xs ++ b)).0 (call (xs ++ b)).1 (x ∷ (xs ++ b)) ≡ ((call_did s shown c (call xs).1 (x ∷ xs)).0, (call_did s shown c (call xs).1 (x ∷ xs)).1 ++ b)
unfolding call_did unrefused
call_at s shown call C O x xs b hands_back p e w o =
    let k = some-not (call xs).1 w in
    rw (C.local xs b e k, p, empty-append (call xs).1 b k)
call_at s shown call C O x xs b (refuses k) p e w o = absurd (true≢false (sym o))
call_at s shown call C O x xs b (outputs c out) p e w o =
    let k = O.sure xs e (ap ended p ∙ (unfold ended in w)) in
    rw (C.local xs b e k, p)

steps-calling : (s : Records) (shown : List ℕ) {call : Reader Call} → Good call → Sure ended call → Steps (calling s shown call)
unfolding calling ◌>>◌ skip
steps-calling s shown {call} C O = record { steps = go }
  where
    go : (t b : List ℕ) → ends_in_newline t ≡ true → Some t → (calling s shown call t).0.whole ≡ true → unrefused (calling s shown call t).0.emit ≡ true → calling s shown call (t ++ b) ≡ ((calling s shown call t).0, (calling s shown call t).1 ++ b)
    go [] b e k w o = absurd k
    go (x ∷ xs) b e k w o = call_at s shown call C O x xs b (call xs).0 refl (newline-tail x xs e) w o

steps_copy : (s : Records) → Steps (copy_step s)
unfolding copy_step
steps_copy s = record { steps = go }
  where
    go : (t b : List ℕ) → ends_in_newline t ≡ true → Some t → (copy_step s t).0.whole ≡ true → unrefused (copy_step s t).0.emit ≡ true → copy_step s (t ++ b) ≡ ((copy_step s t).0, (copy_step s t).1 ++ b)
    go [] b e k w o = absurd k
    go (x ∷ xs) b e k w o = refl

ruleset lines = (steps-bind, steps_then, steps_if, steps-ret, steps-skip, steps_copy, steps-calling, line-span, line-sees, line-mark)

steps-import : (s : Records) → Steps (import_step s)
unfolding import_step but
steps-import s = search lines

steps-let : (look : Lookup) (s : Records) → Steps (let_step look s)
unfolding let_step but name_byte word letter digit the line_blank blank either
steps-let look s = search lines depth 12

steps-call : (m : List ℕ) {call : Reader Call} (s : Records) → Good call → Sure ended call → Steps (call_step m call s)
unfolding call_step line_blank blank but
steps-call m s C O = search lines

steps-reference : (look : Lookup) (s : Records) → Steps (reference_step look s)
unfolding reference_step run_byte name_byte word letter digit the
steps-reference look s = search lines depth 12

pub steps-expansion : (v : View) (s : Records) → Steps (expansion_step v s)
unfolding expansion_step inline
steps-expansion v s = search (lines, steps-import, steps-let, steps-call, steps-reference, good-raw, sure-raw, good-link, sure-link) depth 20

-- The expansion of a ++ b.
pub expansion-append : (v : View) (s : Records) (a b : List ℕ) → ends_in_newline a ≡ true → all_whole (expansion v s a) ≡ true → expansion v s (a ++ b) ≡ join_runs (expansion v s a) (λ s'. expansion v s' b)
unfolding expansion
expansion-append v s a b e c = run-append (expansion_step v) (steps-expansion v) a b s 0 (omega arith) e c
