-- The order of names, byte by byte, and a name as it is asked for. Assumes nothing.
use Rattle.std.specs.Prelude.{◌≡◌, true, false, List, [], ◌∷◌, ℕ, zero, suc, ◌+◌, ◌<◌, length, drop, get_or}
use Rattle.std.proofs.Math.Path.{refl, sym}
use Rattle.std.proofs.Common.{◌∙◌, true≢false, arith, drop-cons}
use Rattle.std.proofs.Math.Numerals.{add-one}
use Rattle.std.specs.Prelude.{min}
use Rattle.std.proofs.lemmas.Bool.Decides.{nat_tests}
use Rattle.std.specs.declared.cmp.Ordering.{Ordering}
use Rattle.std.specs.declared.cmp.Ordering.TheVariants.{Less, Equal, Greater}
use Rattle.std.specs.Ordering.{nat_cmp, is_lt, is_gt, is_ne, ordering_then, ordering_reverse}
use Rattle.std.specs.Cmp.Lexicographic.{slice_cmp}
use Rattle.std.proofs.lemmas.Cmp.{same_from_slice_cmp, nat_list_cmp_total, tied_itself}
use Rattle.rules.specs.Reader.{same}
use Rattle.rules.specs.Bytes.{less}
use Rattle.rules.proofs.Laws.Sheet.{less-same, same_refl, same_eq}
use Rattle.rules.proofs.Laws.Bool.{not-true}

-- The order of lists of bytes (01, section 2), as it is compared here, is the rules'.
less-is : (a b : List ℕ) → is_lt (slice_cmp nat_cmp a b) ≡ less a b
unfolding less
less-is a b = same_from_slice_cmp nat_cmp is_lt less refl (λ _ _. refl) (λ _ _. refl) (λ x y xs ys o h. grind (arith, nat_tests)) a b (slice_cmp nat_cmp a b) refl

pub order-less : (a b : List ℕ) → (less a b ≡ is_lt (slice_cmp nat_cmp a b)) × (less b a ≡ is_gt (slice_cmp nat_cmp a b))
order-less a b = (sym (less-is a b), sym (less-is b a) ∙ go (slice_cmp nat_cmp a b) (slice_cmp nat_cmp b a) (nat_list_cmp_total.antisymm b a))
  where
    go : (o p : Ordering) → p ≡ ordering_reverse o → is_lt p ≡ is_gt o
    go Less p e = rw e refl
    go Equal p e = rw e refl
    go Greater p e = rw e refl

pub order-yes : (a b : List ℕ) → slice_cmp nat_cmp a b ≡ Equal → same a b ≡ true
order-yes a b h =
    let e : a ≡ b = less-same a b ((order-less a b).0 ∙ rw h refl) ((order-less a b).1 ∙ rw h refl) in
    rw e (same_refl b)

pub order-no : (a b : List ℕ) → (slice_cmp nat_cmp a b ≡ Equal → ⊥) → same a b ≡ false
order-no a b h = not-true (same a b) (λ q. h (rw (same_eq a b q) (tied_itself nat_list_cmp_total b)))

-- The first i bytes are the same.
pub record SameTo (a b : List ℕ) (i : ℕ) : Type 0 where
  pub same : slice_cmp nat_cmp a b ≡ slice_cmp nat_cmp (drop i a) (drop i b)

end-order : (i : ℕ) (a b : List ℕ) → i ≡ min (length a) (length b) → slice_cmp nat_cmp (drop i a) (drop i b) ≡ nat_cmp (length a) (length b)
end-order zero [] [] h = refl
end-order zero [] (y ∷ b) h = grind (arith, nat_tests)
end-order zero (x ∷ a) [] h = grind (arith, nat_tests)
end-order zero (x ∷ a) (y ∷ b) h = absurd (omega arith)
end-order (suc i) [] b h = absurd (omega arith)
end-order (suc i) (x ∷ a) [] h = absurd (omega arith)
end-order (suc i) (x ∷ a) (y ∷ b) h = end-order i a b (omega arith) ∙ grind (arith, nat_tests)

module _ {a b : List ℕ} {i : ℕ} (s : SameTo a b i) where
  pub order_end : i ≡ min (length a) (length b) → {o : Ordering} → o ≡ nat_cmp (length a) (length b) → o ≡ slice_cmp nat_cmp a b
  order_end h e = e ∙ sym (s.same ∙ end-order i a b h)

  module _ (g : i < length a) (h : i < length b) {x y : ℕ} {o : Ordering} (j : x ≡ get_or a i 0) (k : y ≡ get_or b i 0) (e : o ≡ nat_cmp x y) where
    opened : slice_cmp nat_cmp a b ≡ ordering_then o (slice_cmp nat_cmp (drop (suc i) a) (drop (suc i) b))
    opened = s.same ∙ rw (drop-cons a i 0, drop-cons b i 0, e, j, k) refl

    pub order_found : is_ne o ≡ true → o ≡ slice_cmp nat_cmp a b
    order_found n = go o _ n ∙ sym opened
      where
        go : (o p : Ordering) → is_ne o ≡ true → o ≡ ordering_then o p
        go Less p z = refl
        go Equal p z = absurd (true≢false (sym z))
        go Greater p z = refl

    pub order_on : is_ne o ≡ false → SameTo a b (i + 1)
    order_on n = rw add-one (record { same = opened ∙ go o _ n })
      where
        go : (o p : Ordering) → is_ne o ≡ false → ordering_then o p ≡ p
        go Less p z = absurd (true≢false z)
        go Equal p z = refl
        go Greater p z = absurd (true≢false z)
