-- The link call.
use Rattle.std.specs.Prelude.{◌≡◌, ◌++◌, Bool, false, ◌||◌, ℕ, ◌+◌, ◌≤◌, ◌<◌, drop}
use Rattle.std.proofs.Math.Path.{refl}
use Rattle.std.proofs.Common.{sym, ap, ◌∙◌, true≢false, arith, add-one, drop-cons, length-drop, length-take}
use mathlib.Core.List.{List, [], ◌∷◌}
use Rattle.std.proofs.Math.Bool.{true}
use Rattle.std.proofs.Math.ListN.{length}
use Rattle.std.proofs.Math.Seq.{drop-drop}
use Rattle.rules.specs.Reader.{Reader, bytes, empty, same, ret, if_r, ◌>>=◌, ◌>>◌, skip}
use Rattle.rules.specs.Bytes.{blank, line_blank}
use Rattle.rules.specs.Sheet.{Lookup}
use Rattle.rules.specs.Strings.{expression}
use Rattle.rules.specs.Expansion.{Call, hands_back, outputs, link_text, link_content_block, link_end, link}
use Rattle.rules.proofs.Laws.Sheet.{same_refl, same_eq}
use Rattle.scan.specs.declared.read.Read.{Read}
use Rattle.scan.specs.Sets.{byte_is, not_byte, part, Spans, Skips, Sees}
use Rattle.scan.specs.Laws.{sees-the, skip_at, not-empty, tail-part}
use Rattle.scan.specs.Stretches.{spans-but}
use Rattle.string_ends.specs.Ends.{Ends}
use Rattle.link_call.specs.declared.Ending.{Ending}
use Rattle.std.specs.Borrow.{Bor}

-- A content block, from behind a `)`.
unfoldable pub behind_paren : List ℕ → Reader Call
behind_paren u t = link_content_block u (bytes ")" ++ t)

-- e reads the end of r, for every address.
pub record Closes (e : List ℕ → Reader Call) (t : List ℕ) (r : Read Ending) : Type 0 where
  pub inside : r.used ≤ length t
  pub says : (u : List ℕ) → e u t ≡ (outputs r.what.whole (link_text u r.what.text.now), drop r.used t)

-- Without a text it is the address.
no_text : (u : List ℕ) → link_text u [] ≡ u
unfolding link_text empty
no_text u = refl

-- THE BOX, behind line blanks up to k.
module _ {t : List ℕ} {k : ℕ} (L : Spans line_blank t 0 k) {c : Bool} (s : Sees (byte_is 91) t k c) where
  pub block_none : c ≡ false → {l : Bor (List ℕ)} → l.now ≡ [] → Closes behind_paren t (record { what = record { whole = true; text = l }; used = k })
  unfolding behind_paren link_content_block skip ◌>>=◌ ◌>>◌ if_r ret
  block_none e x = record {
    inside = L.inside;
    says = λ u. rw (L.rest, (sees-the "[" s e).says, x, no_text u) refl;
  }

  pub block_text_lem : c ≡ true → {j n : ℕ} {w : Bool} → Spans (not_byte 93) t (k + 1) j → Sees (byte_is 93) t j w → Skips t j n → {l : Bor (List ℕ)} → l.now ≡ part t (k + 1) j → Closes behind_paren t (record { what = record { whole = w; text = l }; used = n })
  unfolding behind_paren link_content_block skip ◌>>=◌ ◌>>◌ if_r ret
  block_text_lem e J W N x =
      let M = spans-but "]" J in
      record {
        inside = N.inside;
        says = λ u. rw (L.rest, (sees-the "[" s e).says, skip_at t k (s.there e), M.took, M.rest, x, (sees-the "]" W refl).says, N.rest) refl;
      }

-- The byte at k is skipped.
at_paren : (u t : List ℕ) (k : ℕ) → k < length t → link_content_block u (drop k t) ≡ behind_paren u (drop (k + 1) t)
unfolding behind_paren link_content_block skip ◌>>=◌ ◌>>◌
at_paren u t k h = rw (add-one, drop-cons t k 0) refl

-- THE END, behind blanks up to k.
module _ {t : List ℕ} {k : ℕ} (L : Spans blank t 0 k) {c : Bool} (s : Sees (byte_is 41) t k c) where
  pub end_block : c ≡ true → {r : Read Ending} → Closes behind_paren (part t (k + 1) (length t)) r → Closes link_end t (record { what = r.what; used = k + 1 + r.used })
  unfolding link_end ◌>>=◌ ◌>>◌ if_r
  end_block e {r} b₀ =
      let h = s.there e in
      let b : Closes behind_paren (drop (k + 1) t) r = rw tail-part at b₀ in
      record {
        inside = omega (arith, simp length-drop at b.inside);
        says = λ u. rw (L.rest, (sees-the ")" s e).says) (at_paren u t k h ∙ b.says u ∙ ap (λ z. (outputs r.what.whole (link_text u r.what.text.now), z)) (drop-drop r.used (k + 1) t));
      }

  pub end_paren : c ≡ false → {j n : ℕ} {w : Bool} → Spans (not_byte 41) t k j → Sees (byte_is 41) t j w → Skips t j n → {l : Bor (List ℕ)} → l.now ≡ [] → Closes link_end t (record { what = record { whole = w; text = l }; used = n })
  unfolding link_end ◌>>=◌ ◌>>◌ if_r ret
  end_paren e J W N x =
      let M = spans-but ")" J in
      record {
        inside = N.inside;
        says = λ u. rw (L.rest, (sees-the ")" s e).says, M.rest, (sees-the ")" W refl).says, N.rest, x, no_text u) refl;
      }

-- IS IT THE ADDRESS ALONE? w: the content block's text, u: the address.
same-sym : (a b : List ℕ) → same a b ≡ same b a
same-sym a b = at (same a b) (same b a) refl refl
  where
    at : (c d : Bool) → same a b ≡ c → same b a ≡ d → same a b ≡ same b a
    at true true p q = p ∙ sym q
    at false false p q = p ∙ sym q
    at true false p q = absurd (true≢false (sym (ap (λ z. same z a) (sym (same_eq a b p)) ∙ same_refl a) ∙ q))
    at false true p q = absurd (true≢false (sym (ap (same a) (same_eq b a q) ∙ same_refl a) ∙ p))

module _ (u w : List ℕ) where
  pub alone_empty : length w ≡ 0 → true ≡ (empty w || same w u)
  unfolding empty
  alone_empty h = at w h
    where
      at : (x : List ℕ) → length x ≡ 0 → true ≡ (empty x || same x u)
      at [] e = refl
      at (y ∷ x) e = absurd (omega arith)

  module _ (h : length w ≡ 0 → ⊥) where
    pub alone_same : {c : Bool} → c ≡ same u w → c ≡ (empty w || same w u)
    alone_same e = e ∙ same-sym u w ∙ ap (λ z. z || same w u) (sym (not-empty w h))

-- THE TEXT of a call: e, by whether it is the address alone.
module _ (u w : List ℕ) {a : Bool} (A : a ≡ (empty w || same w u)) where
  pub link_alone : a ≡ true → link_text u w ≡ u
  unfolding link_text
  link_alone e = rw (sym A ∙ e, link_text) refl

  pub link_block : a ≡ false → link_text u w ≡ bytes "#link(\"" ++ (u ++ (bytes "\")[" ++ (w ++ bytes "]")))
  unfolding link_text
  link_block e = rw (sym A ∙ e, link_text) refl

-- THE CALL, behind blanks up to i.
module _ (look : Lookup) {t : List ℕ} {i : ℕ} (L : Spans blank t 0 i) {c : Bool} (s : Sees (byte_is 60) t i c) where
  pub link-back : c ≡ true → link look t ≡ (hands_back, drop i t)
  unfolding link ◌>>=◌ ◌>>◌ if_r ret
  link-back e = rw (L.rest, (sees-the "<" s e).says) refl

  -- The address is read, then the end.
  module _ {k : ℕ} (w : Ends (expression look (part t i (length t))) (part t i (length t)) k) {e : Read Ending} (E : Closes link_end (part (part t i (length t)) k (length (part t i (length t)))) e) where
    pub read-inside : i + k + e.used ≤ length t
    read-inside = let a = simp (length-take, length-drop) at E.inside in let b = simp (length-take, length-drop) at w.inside in omega (arith, a, b, L.inside)

    -- Read on from the call's start, it is d.
    pub link-read : c ≡ false → {d : Read Ending} → d ≡ record { what = e.what; used = i + k + e.used } → link look t ≡ (outputs d.what.whole (link_text (expression look (part t i (length t))).0 d.what.text.now), drop d.used t)
    unfolding link ◌>>=◌ ◌>>◌ if_r
    link-read f D =
        let v : Ends (expression look (drop i t)) (drop i t) k = rw tail-part at w in
        let d : Closes link_end (drop k (drop i t)) e = rw (tail-part, tail-part) at E in
        let z : drop e.used (drop k (drop i t)) ≡ drop (i + k + e.used) t = drop-drop e.used k (drop i t) ∙ drop-drop (k + e.used) i t ∙ ap (λ n. drop n t) (omega arith) in
        rw (D, tail-part) (rw (L.rest, (sees-the "<" s f).says, v.rest) (d.says _ ∙ ap (λ z. (outputs e.what.whole (link_text (expression look (drop i t)).0 e.what.text.now), z)) z))
