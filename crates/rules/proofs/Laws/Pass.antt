-- One pass over a ++ c, a closed, is the pass over a and then the pass over c.
use Rattle.std.specs.Prelude.{◌≡◌, List, [], ◌++◌, ◌&&◌, ℕ, ◌-◌}
use Rattle.std.proofs.Common.{sym, ◌∙◌, arith}
use Rattle.std.proofs.Math.Path.{ap}
use Rattle.std.proofs.Math.Bool.{true}
use Rattle.std.proofs.Math.ListN.{length}
use Rattle.rules.specs.Answer.{Answer, accepted}
use Rattle.rules.specs.Run.{run, all_whole, written, final, limited, ends_in_newline}
use Rattle.rules.specs.Files.{View}
use Rattle.rules.specs.Sheet.{Records, sheet_length}
use Rattle.rules.specs.Includes.{include_step, inside_file, includes}
use Rattle.rules.specs.Expansion.{expansion}
use Rattle.rules.specs.Pass.{middle_text, expanded, passed, closed}
use Rattle.rules.proofs.Laws.Bool.{and_l, and_r}
use Rattle.rules.proofs.Laws.Answer.{bind_inv, bind-accepted}
use Rattle.rules.proofs.Laws.Limit.{limited_mono, limited-split, limited-text}
use Rattle.rules.proofs.Laws.Expansion.{expansion-append}
use Rattle.rules.proofs.Laws.Includes.{includes-append, includes-sealed}

module _ (v : View) where
  -- Includes of a ++ c.
  record Middles (full m : ℕ) (g a c : List ℕ) (x : List ℕ × List ℕ) : Type 0 where
    first : List ℕ
    second : List ℕ × List ℕ
    included-first : middle_text v full m g a ≡ accepted (first, [])
    included-second : middle_text v full m g c ≡ accepted second
    first-is : first ≡ written (includes v g a)
    both : x ≡ (first ++ second.0, second.1)

  included-split : (full m : ℕ) (g a c : List ℕ) (x : List ℕ × List ℕ) → ends_in_newline a ≡ true → all_whole (includes v g a) ≡ true → middle_text v full m g (a ++ c) ≡ accepted x → Middles full m g a c x
  unfolding middle_text includes
  included-split full m g a c x e k q =
      let f = include_step v (inside_file v 6) g in
      let s = includes-sealed v g a e k in
      let p = limited-split (λ h. 0) 0 full (includes v g a) (λ h. run f h 0 c) m (rw (includes-append v g a c e k) at q) in
      record {
        first = p.first;
        second = p.second;
        included-first = p.limited-first ∙ ap (λ z. accepted (p.first, z)) s.1;
        included-second = limited_mono (λ h. 0) 0 full (includes v g c) (m - length p.first) m (omega arith) (ap (λ z. limited (λ h. 0) 0 full (m - length p.first) (run f z 0 c)) (sym s.1) ∙ p.limited-second);
        first-is = ap (λ z. z.0) (limited-text (λ h. 0) 0 full (includes v g a) m p.limited-first);
        both = p.joined;
      }

  -- Expansion of a ++ c.
  record Expansions (L n : ℕ) (s : Records) (a c : List ℕ) (y : List ℕ × Records) : Type 0 where
    first : List ℕ
    sheet : Records
    second : List ℕ × Records
    expanded-first : expanded v L n s a ≡ accepted (first, sheet)
    expanded-second : expanded v L n sheet c ≡ accepted second
    both : y ≡ (first ++ second.0, second.1)

  expanded-split : (L n : ℕ) (s : Records) (a c : List ℕ) (y : List ℕ × Records) → ends_in_newline a ≡ true → all_whole (expansion v s a) ≡ true → expanded v L n s (a ++ c) ≡ accepted y → Expansions L n s a c y
  unfolding expanded
  expanded-split L n s a c y e k q =
      let p = limited-split sheet_length L 11 (expansion v s a) (λ z. expansion v z c) n (rw (expansion-append v s a c e k) at q) in
      record {
        first = p.first;
        sheet = final (expansion v s a);
        second = p.second;
        expanded-first = p.limited-first;
        expanded-second = limited_mono sheet_length L 11 (expansion v (final (expansion v s a)) c) (n - length p.first) n (omega arith) p.limited-second;
        both = p.joined;
      }

  -- What two passes in a row say of one.
  pub record Passes (L m n : ℕ) (g : List ℕ) (s : Records) (a c : List ℕ) (y : List ℕ × Records) : Type 0 where
    pub first : List ℕ
    pub sheet : Records
    pub second : List ℕ × Records
    pub passed_first : passed v L m n g s a ≡ accepted (first, sheet)
    pub passed-second : passed v L m n g sheet c ≡ accepted second
    pub both : y ≡ (first ++ second.0, second.1)

  passed_intro : (L m n : ℕ) (g : List ℕ) (s : Records) (t : List ℕ) (x : List ℕ × List ℕ) {r : Answer (List ℕ × Records)} → middle_text v 10 m g t ≡ accepted x → expanded v L n s x.0 ≡ r → passed v L m n g s t ≡ r
  unfolding passed
  passed_intro L m n g s t x p q = bind-accepted (middle_text v 10 m g t) _ p ∙ q

  pub passed-split : (L m n : ℕ) (g : List ℕ) (s : Records) (a c : List ℕ) (y : List ℕ × Records) → closed v g s a ≡ true → passed v L m n g s (a ++ c) ≡ accepted y → Passes L m n g s a c y
  unfolding passed closed
  passed-split L m n g s a c y k q =
      let t = includes v g a in
      let k₁ : (ends_in_newline a && all_whole t) ≡ true = and_l (ends_in_newline a && all_whole t) _ k in
      let e : ends_in_newline a ≡ true = and_l (ends_in_newline a) (all_whole t) k₁ in
      let k₂ : all_whole t ≡ true = and_r (ends_in_newline a) (all_whole t) k₁ in
      let k₃ : all_whole (expansion v s (written t)) ≡ true = and_r (ends_in_newline a && all_whole t) _ k in
      let i = bind_inv (middle_text v 10 m g (a ++ c)) _ q in
      let h = included-split 10 m g a c i.0 e k₂ i.1 in
      let n₁ : ends_in_newline h.first ≡ true = ap ends_in_newline h.first-is ∙ (includes-sealed v g a e k₂).0 in
      let k₄ : all_whole (expansion v s h.first) ≡ true = ap (λ z. all_whole (expansion v s z)) h.first-is ∙ k₃ in
      let x = expanded-split L n s h.first h.second.0 y n₁ k₄ (ap (λ z. expanded v L n s z.0) (sym h.both) ∙ i.2) in
      record {
        first = x.first;
        sheet = x.sheet;
        second = x.second;
        passed_first = passed_intro L m n g s a (h.first, []) h.included-first x.expanded-first;
        passed-second = passed_intro L m n g x.sheet c h.second h.included-second x.expanded-second;
        both = x.both;
      }
