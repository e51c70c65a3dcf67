-- Paths in ascending order, and no path that is a folder of another: a rule on the last path and on its starts.
use Rattle.std.specs.Prelude.{◌≡◌, ◌⊎◌, Bool, false, ◌&&◌, ℕ, suc, ◌+◌, ◌≤◌, ◌<◌, min, eqb, ltb, length, take, drop, get_or}
use Rattle.std.proofs.Math.Path.{refl, sym}
use Rattle.std.proofs.Common.{ap, ◌∙◌, inl, inr, ⊎_elim, arith, add-one, length-append, take-append-drop, drop_of_length-le, take-suc, take-take, length-take-le, get_or-take}
use mathlib.Core.List.{List, [], ◌∷◌, ◌++◌, append_assoc}
use Rattle.std.proofs.Math.Bool.{true, not, true≢false, or-false}
use Rattle.std.proofs.lemmas.Bool.{false≢true}
use Rattle.std.proofs.Math.Decide.{dec_le}
use Rattle.std.proofs.Math.ListN.{get_or-append}
use Rattle.std.proofs.Math.Seq.{drop-cons, split_at, take-length, take-append_seam, get_or-append_seam}
use borrow.Author.Tests.{le-ltb, eq-eqb, ne_eqb, eqb-true}
use Rattle.rules.specs.Reader.{all, prefix, bytes}
use Rattle.rules.specs.Bytes.{is_path, less}
use Rattle.rules.specs.Bundle.{ascending, above, good_paths}
use Rattle.rules.proofs.Laws.Bool.{and_l, and_r, and_i, not-true}
use Rattle.rules.proofs.Laws.Sheet.{less_elim, less-tail, less_irrefl, less-trans}
use Rattle.scan.specs.Laws.{prefix-split}

no-cons : {P : Type 0} {x : ℕ} {xs : List ℕ} → x ∷ xs ≡ [] → P
no-cons h = let z : ◌≡◌ {A = ℕ} 0 1 = cc in absurd (omega arith)

-- PATHS OF A LIST.
abbrev pub In : List ℕ → List (List ℕ) → Type 0
In p [] = ⊥
In p (q ∷ ps) = (p ≡ q) ⊎ In p ps

in_left : (p : List ℕ) (a b : List (List ℕ)) → In p a → In p (a ++ b)
in_left p [] b h = absurd h
in_left p (q ∷ a) b (inl e) = inl e
in_left p (q ∷ a) b (inr h) = inr (in_left p a b h)

in-mid : (q : List ℕ) (a r : List (List ℕ)) → In q (a ++ (q ∷ r))
in-mid q [] r = inl refl
in-mid q (p ∷ a) r = inr (in-mid q a r)

in_snoc : (p q : List ℕ) (a : List (List ℕ)) → In p (a ++ (q ∷ [])) → In p a ⊎ (p ≡ q)
in_snoc p q [] (inl e) = inr e
in_snoc p q [] (inr h) = absurd h
in_snoc p q (r ∷ a) (inl e) = inl (inl e)
in_snoc p q (r ∷ a) (inr h) = ⊎_elim (λ k. inl (inr k)) (λ e. inr e) (in_snoc p q a h)

all_in : (f : List ℕ → Bool) (ps : List (List ℕ)) (p : List ℕ) → all f ps ≡ true → In p ps → f p ≡ true
unfolding all
all_in f [] p h k = absurd k
all_in f (q ∷ ps) p h (inl e) = rw e (and_l (f q) (all f ps) h)
all_in f (q ∷ ps) p h (inr k) = all_in f ps p (and_r (f q) (all f ps) h) k

in_all : (f : List ℕ → Bool) (ps : List (List ℕ)) → ((p : List ℕ) → In p ps → f p ≡ true) → all f ps ≡ true
unfolding all
in_all f [] h = refl
in_all f (q ∷ ps) h = and_i (f q) (all f ps) (h q (inl refl)) (in_all f ps (λ p k. h p (inr k)))

-- THE ORDER.
abbrev pub Le : List ℕ → List ℕ → Type 0
Le p x = (p ≡ x) ⊎ (less p x ≡ true)

le-less : (p x q : List ℕ) → Le p x → less x q ≡ true → less p q ≡ true
le-less p x q (inl e) h = rw e h
le-less p x q (inr k) h = less-trans p x q k h

-- What stands between p and a text that begins with p begins with p.
le-nil : (c : ℕ) (p : List ℕ) → Le (c ∷ p) [] → ⊥
unfolding less
le-nil c p (inl e) = no-cons e
le-nil c p (inr l) = absurd (false≢true l)

between : (c d : ℕ) (p x s : List ℕ) → Le (c ∷ p) (d ∷ x) → less (d ∷ x) (c ∷ (p ++ s)) ≡ true → (c ≡ d) × Le p x × (less x (p ++ s) ≡ true)
between c d p x s (inl e) k =
    let f : c ≡ d = cc in
    let g : p ≡ x = cc in
    less_elim d c x (p ++ s) k (λ m. absurd (omega arith)) (λ m n. (f, inl g, n))
between c d p x s (inr l) k =
    less_elim c d p x l
    (λ v. less_elim d c x (p ++ s) k (λ m. absurd (omega arith)) (λ m n. absurd (omega arith)))
    (λ v w. less_elim d c x (p ++ s) k (λ m. absurd (omega arith)) (λ m n. (v, inr w, n)))

sandwich : (p x s : List ℕ) → Le p x → less x (p ++ s) ≡ true → (u : List ℕ) × (x ≡ p ++ u)
sandwich [] x s h k = (x, refl)
sandwich (c ∷ p) [] s h k = absurd (le-nil c p h)
sandwich (c ∷ p) (d ∷ x) s h k =
    let f = between c d p x s h k in
    let r = sandwich p x s f.1 f.2 in
    (r.0, cc (f.0, r.1))

-- A PATH followed by `/`.
above-split : (p q : List ℕ) → above p q ≡ true → (r : List ℕ) × (q ≡ p ++ (47 ∷ r))
unfolding above
above-split p q h = let r = drop (length (p ++ bytes "/")) q in (r, prefix-split (p ++ bytes "/") q h ∙ append_assoc p (47 ∷ []) r)

split-above : (p r : List ℕ) → above p (p ++ (47 ∷ r)) ≡ true
unfolding above prefix
split-above [] r = refl
split-above (c ∷ p) r = and_i (eqb c c) _ (eq-eqb c c refl) (split-above p r)

less-more : (p r : List ℕ) → less p (p ++ (47 ∷ r)) ≡ true
unfolding less
less-more [] r = refl
less-more (c ∷ p) r = less-tail c c p (p ++ (47 ∷ r)) refl (less-more p r)

above-less : (p q : List ℕ) → above p q ≡ true → less p q ≡ true
above-less p q h = let s = above-split p q h in rw s.1 (less-more p s.0)

-- Two paths agree in their first k bytes, and in no more.
pub record Agree (x q : List ℕ) (k : ℕ) : Type 0 where
  pub short : k ≤ length x
  pub inside : k ≤ length q
  pub same : take k x ≡ take k q
  pub ends : k < length x → k < length q → get_or x k 0 ≡ get_or q k 0 → ⊥

less_common : (c a b : List ℕ) → less (c ++ a) (c ++ b) ≡ less a b
unfolding less
less_common [] a b = refl
less_common (x ∷ c) a b = rw (le-ltb x x (omega arith), eq-eqb x x refl) (less_common c a b)

module _ {x q : List ℕ} {k : ℕ} (s : Agree x q k) where
  less-drop : less x q ≡ less (drop k x) (drop k q)
  less-drop = ap (λ z. less z q) (sym (take-append-drop k x)) ∙ ap (λ z. less (take k x ++ drop k x) z) (sym (take-append-drop k q)) ∙ ap (λ z. less (take k x ++ drop k x) (z ++ drop k q)) (sym s.same) ∙ less_common (take k x) (drop k x) (drop k q)

  less_none : (a : List ℕ) → less a [] ≡ false
  unfolding less
  less_none [] = refl
  less_none (y ∷ ys) = refl

  pub ordered-none : length q ≤ k → false ≡ less x q
  ordered-none h = sym (less-drop ∙ rw (drop_of_length-le q h) (less_none (drop k x)))

  pub ordered_end : k < length q → length x ≤ k → true ≡ less x q
  unfolding less
  ordered_end h l = sym (less-drop ∙ rw (drop_of_length-le x l, drop-cons q k 0))

  pub ordered-byte : k < length q → k < length x → ltb (get_or x k 0) (get_or q k 0) ≡ less x q
  unfolding less
  ordered-byte h l = sym (less-drop ∙ rw (drop-cons x k 0, drop-cons q k 0, ne_eqb (get_or x k 0) (get_or q k 0) (s.ends l h)) (or-false (ltb (get_or x k 0) (get_or q k 0))))

-- THE LAST PATH of some paths that keep the rules so far.
abbrev pub last_of : List (List ℕ) → List ℕ
last_of [] = []
last_of (p ∷ []) = p
last_of (p ∷ q ∷ ps) = last_of (q ∷ ps)

pub record Well (ps : List (List ℕ)) (x : List ℕ) : Type 0 where
  pub paths : all is_path ps ≡ true
  pub upward : ascending ps ≡ true
  pub last : x ≡ last_of ps
  pub below : (p : List ℕ) → In p ps → Le p x
  pub there : (p : List ℕ) → In p ps → In x ps
  pub apart : (p r : List ℕ) → In p ps → In r ps → above p r ≡ false

pub well-start : Well [] []
unfolding all ascending
well-start = record { paths = refl; upward = refl; last = refl; below = λ p h. absurd h; there = λ p h. absurd h; apart = λ p r h k. absurd h }

asc_snoc : (p : List ℕ) (ps : List (List ℕ)) (q : List ℕ) → ascending (p ∷ ps) ≡ true → less (last_of (p ∷ ps)) q ≡ true → ascending ((p ∷ ps) ++ (q ∷ [])) ≡ true
unfolding ascending
asc_snoc p [] q h k = and_i (less p q) true k refl
asc_snoc p (r ∷ rs) q h k = and_i (less p r) _ (and_l (less p r) (ascending (r ∷ rs)) h) (asc_snoc r rs q (and_r (less p r) (ascending (r ∷ rs)) h) k)

asc_on : (ps : List (List ℕ)) (q : List ℕ) → ascending ps ≡ true → less (last_of ps) q ≡ true → ascending (ps ++ (q ∷ [])) ≡ true
unfolding ascending
asc_on [] q h k = refl
asc_on (p ∷ ps) q h k = asc_snoc p ps q h k

asc_cut : (p : List ℕ) (ps : List (List ℕ)) (q : List ℕ) (r : List (List ℕ)) → ascending ((p ∷ ps) ++ (q ∷ r)) ≡ true → less (last_of (p ∷ ps)) q ≡ true
unfolding ascending
asc_cut p [] q r h = and_l (less p q) (ascending (q ∷ r)) h
asc_cut p (t ∷ ts) q r h = asc_cut t ts q r (and_r (less p t) (ascending ((t ∷ ts) ++ (q ∷ r))) h)

path-some : (q : List ℕ) → is_path q ≡ true → less [] q ≡ true
unfolding is_path less
path-some [] h = absurd (false≢true h)
path-some (x ∷ xs) h = refl

last_snoc : (ps : List (List ℕ)) (q : List ℕ) → q ≡ last_of (ps ++ (q ∷ []))
last_snoc [] q = refl
last_snoc (p ∷ []) q = refl
last_snoc (p ∷ r ∷ ps) q = last_snoc (r ∷ ps) q

-- What paths that keep the rules say of the first ones behind some.
module _ (ps : List (List ℕ)) (q : List ℕ) (r : List (List ℕ)) (g : good_paths (ps ++ (q ∷ r)) ≡ true) where
  good_1 : (all is_path (ps ++ (q ∷ r)) && ascending (ps ++ (q ∷ r))) ≡ true
  unfolding good_paths
  good_1 = and_l (all is_path (ps ++ (q ∷ r)) && ascending (ps ++ (q ∷ r))) _ g

  good-path : is_path q ≡ true
  good-path = all_in is_path (ps ++ (q ∷ r)) q (and_l (all is_path (ps ++ (q ∷ r))) _ good_1) (in-mid q ps r)

  good-apart : (p : List ℕ) → In p ps → above p q ≡ true → ⊥
  unfolding good_paths
  good-apart p i a =
      let l = ps ++ (q ∷ r) in
      let h = all_in (λ p. all (λ q. not (above p q)) l) l p (and_r (all is_path l && ascending l) _ g) (in_left p ps (q ∷ r) i) in
      let k : not (above p q) ≡ true = all_in (λ q. not (above p q)) l q h (in-mid q ps r) in
      true≢false (sym (rw a at k))

good-less : (ps : List (List ℕ)) (q : List ℕ) (r : List (List ℕ)) → good_paths (ps ++ (q ∷ r)) ≡ true → less (last_of ps) q ≡ true
good-less [] q r g = path-some q (good-path [] q r g)
good-less (p ∷ ps) q r g = asc_cut p ps q r (and_r (all is_path ((p ∷ ps) ++ (q ∷ r))) _ (good_1 (p ∷ ps) q r g))

-- MARKS: which starts of the last path are paths themselves.
pub record Marks (ps : List (List ℕ)) (x : List ℕ) (o : List Bool) : Type 0 where
  pub on : (l : ℕ) → l ≤ length x → get_or o l false ≡ true → In (take l x) ps
  pub off : (l : ℕ) → l ≤ length x → In (take l x) ps → get_or o l false ≡ true

-- The marks for a path of n bytes that agrees with the last one in k bytes.
pub record Marked (o m : List Bool) (k n : ℕ) : Type 0 where
  pub kept : (l : ℕ) → l ≤ k → get_or m l false ≡ get_or o l false
  pub cleared : (l : ℕ) → k < l → l < n → get_or m l false ≡ false
  pub marked : get_or m n false ≡ true
  pub size : length m ≡ 256

module _ {ps : List (List ℕ)} {x q : List ℕ} {o : List Bool} {k : ℕ} (w : Well ps x) (s : Agree x q k) (m : Marks ps x o) (l : less x q ≡ true) where
  -- A path of the list that begins q begins the last path too, and is no longer than they agree.
  begins : (p u : List ℕ) → In p ps → q ≡ p ++ u → ((v : List ℕ) × (x ≡ p ++ v)) × (length p ≤ k)
  begins p u i e =
      let f = sandwich p x u (w.below p i) (rw e at l) in
      (f, go f (dec_le (length p) k))
    where
      go : (f : (v : List ℕ) × (x ≡ p ++ v)) → Dec (length p ≤ k) → length p ≤ k
      go f (yes h) = h
      go f (no h) =
          let a : length x ≡ length p + length f.0 = ap length f.1 ∙ length-append p f.0 in
          let b : length q ≡ length p + length u = ap length e ∙ length-append p u in
          let c : get_or x k 0 ≡ get_or p k 0 = ap (λ z. get_or z k 0) f.1 ∙ get_or-append p f.0 0 k (omega arith) in
          let d : get_or q k 0 ≡ get_or p k 0 = ap (λ z. get_or z k 0) e ∙ get_or-append p u 0 k (omega arith) in
          absurd (s.ends (omega arith) (omega arith) (c ∙ sym d))

  -- A path of the list that is a folder of q has as many bytes as agree, and is marked.
  clash : (p : List ℕ) → In p ps → above p q ≡ true → (get_or q k 0 ≡ 47) × (get_or o k false ≡ true)
  clash p i a = go (above-split p q a)
    where
      go : ((r : List ℕ) × (q ≡ p ++ (47 ∷ r))) → (get_or q k 0 ≡ 47) × (get_or o k false ≡ true)
      go r = at (begins p (47 ∷ r.0) i r.1)
        where
          slash : get_or q (length p) 0 ≡ 47
          slash = ap (λ z. get_or z (length p) 0) r.1 ∙ get_or-append_seam p 47 r.0 0

          longer : (v : List ℕ) → x ≡ p ++ v → length p < k → ⊥
          longer [] e h = omega (arith, s.short, ap length e, length-append p [])
          longer (y ∷ v) e h =
              let t : get_or x (length p) 0 ≡ get_or q (length p) 0 = sym (get_or-take k x (length p) 0 h) ∙ ap (λ z. get_or z (length p) 0) s.same ∙ get_or-take k q (length p) 0 h in
              let y47 : y ≡ 47 = sym (get_or-append_seam p y v 0) ∙ ap (λ z. get_or z (length p) 0) (sym e) ∙ t ∙ slash in
              let xs : x ≡ p ++ (47 ∷ v) = e ∙ ap (λ z. p ++ (z ∷ v)) y47 in
              true≢false (sym (split-above p v) ∙ ap (above p) (sym xs) ∙ w.apart p x i (w.there p i))

          at : ((v : List ℕ) × (x ≡ p ++ v)) × (length p ≤ k) → (get_or q k 0 ≡ 47) × (get_or o k false ≡ true)
          at b = here (dec_le k (length p))
            where
              here : Dec (k ≤ length p) → (get_or q k 0 ≡ 47) × (get_or o k false ≡ true)
              here (no h) = absurd (longer b.0.0 b.0.1 (omega arith))
              here (yes h) =
                  let e : k ≡ length p = omega (arith, b.1) in
                  let t : take k x ≡ p = ap (take k) b.0.1 ∙ ap (λ z. take z (p ++ b.0.0)) e ∙ take-append_seam p b.0.0 in
                  (ap (λ z. get_or q z 0) e ∙ slash, m.off k s.short (rw t i))

  no-clash : (eqb (get_or q k 0) 47 && get_or o k false) ≡ false → (p : List ℕ) → In p ps → above p q ≡ false
  no-clash c p i = not-true (above p q) (λ a. let h = clash p i a in true≢false (sym (and_i _ _ (eq-eqb (get_or q k 0) 47 h.0) h.1) ∙ c))

  not_back : (p : List ℕ) → In p ps → above q p ≡ false
  not_back p i = not-true (above q p) (λ a. true≢false (sym (less-trans q p q (above-less q p a) (le-less p x q (w.below p i) l)) ∙ less_irrefl q))

  -- One path more.
  pub well-on : is_path q ≡ true → (eqb (get_or q k 0) 47 && get_or o k false) ≡ false → Well (ps ++ (q ∷ [])) q
  well-on h c = record {
    paths = in_all is_path (ps ++ (q ∷ [])) (λ p i. ⊎_elim (λ j. all_in is_path ps p w.paths j) (λ e. rw e h) (in_snoc p q ps i));
    upward = asc_on ps q w.upward (rw w.last at l);
    last = last_snoc ps q;
    below = λ p i. ⊎_elim (λ j. inr (le-less p x q (w.below p j) l)) (λ e. inl e) (in_snoc p q ps i);
    there = λ p i. in-mid q ps [];
    apart = λ p r i j. both p r (in_snoc p q ps i) (in_snoc r q ps j);
  }
    where
      both : (p r : List ℕ) → In p ps ⊎ (p ≡ q) → In r ps ⊎ (r ≡ q) → above p r ≡ false
      both p r (inl i) (inl j) = w.apart p r i j
      both p r (inl i) (inr e) = rw e (no-clash c p i)
      both p r (inr d) (inl j) = rw d (not_back r j)
      both p r (inr d) (inr e) = rw (d, e) (not-true (above q q) (λ a. true≢false (sym (above-less q q a) ∙ less_irrefl q)))

  pub marks-on : {n : List Bool} → k < length q → Marked o n k (length q) → Marks (ps ++ (q ∷ [])) q n
  marks-on {n} h d = record { on = on; off = off }
    where
      start-same : (j : ℕ) → j ≤ k → take j x ≡ take j q
      start-same j g = sym (take-take j k x g) ∙ ap (take j) s.same ∙ take-take j k q g

      on : (j : ℕ) → j ≤ length q → get_or n j false ≡ true → In (take j q) (ps ++ (q ∷ []))
      on j g e = low (dec_le j k)
        where
          high : Dec (length q ≤ j) → (j ≤ k → ⊥) → In (take j q) (ps ++ (q ∷ []))
          high (yes t) u = let z : j ≡ length q = omega arith in rw (z, take-length q) (in-mid q ps [])
          high (no t) u = absurd (true≢false (sym e ∙ d.cleared j (omega (arith, u)) (omega arith)))

          low : Dec (j ≤ k) → In (take j q) (ps ++ (q ∷ []))
          low (yes t) = let i : In (take j x) ps = m.on j (omega (arith, s.short)) (sym (d.kept j t) ∙ e) in in_left (take j q) ps (q ∷ []) (rw (start-same j t) at i)
          low (no t) = high (dec_le (length q) j) t

      off : (j : ℕ) → j ≤ length q → In (take j q) (ps ++ (q ∷ [])) → get_or n j false ≡ true
      off j g i = ⊎_elim old new (in_snoc (take j q) q ps i)
        where
          old : In (take j q) ps → get_or n j false ≡ true
          old i =
              let b = begins (take j q) (drop j q) i (sym (take-append-drop j q)) in
              let t : j ≤ k = omega (arith, b.1, length-take-le j q g) in
              d.kept j t ∙ m.off j (omega (arith, s.short)) (rw (start-same j t) i)

          new : take j q ≡ q → get_or n j false ≡ true
          new e = let z : j ≡ length q = sym (length-take-le j q g) ∙ ap length e in rw z d.marked

-- Paths that break a rule stay broken.
module _ {ps : List (List ℕ)} {x : List ℕ} (w : Well ps x) (q : List ℕ) where
  pub bad_path : is_path q ≡ false → (r : List (List ℕ)) → good_paths (ps ++ (q ∷ r)) ≡ false
  bad_path h r = not-true _ (λ g. true≢false (sym (good-path ps q r g) ∙ h))

  pub bad_order : less x q ≡ false → (r : List (List ℕ)) → good_paths (ps ++ (q ∷ r)) ≡ false
  bad_order h r = not-true _ (λ g. true≢false (sym (good-less ps q r g) ∙ ap (λ z. less z q) (sym w.last) ∙ h))

  pub bad_clash : {o : List Bool} {k : ℕ} → Agree x q k → Marks ps x o → k < length q → (eqb (get_or q k 0) 47 && get_or o k false) ≡ true → (r : List (List ℕ)) → good_paths (ps ++ (q ∷ r)) ≡ false
  bad_clash {o} {k} s m h c r =
      let a = eqb-true (get_or q k 0) 47 (and_l (eqb (get_or q k 0) 47) _ c) in
      let b = and_r (eqb (get_or q k 0) 47) _ c in
      let i = m.on k s.short b in
      let e : q ≡ take k x ++ (47 ∷ drop (suc k) q) = split_at q k 0 h ∙ ap (λ z. z ++ (get_or q k 0 ∷ drop (suc k) q)) (sym s.same) ∙ ap (λ z. take k x ++ (z ∷ drop (suc k) q)) a in
      not-true _ (λ g. good-apart ps q r g (take k x) i (ap (above (take k x)) e ∙ split-above (take k x) (drop (suc k) q)))

pub well-good : {ps : List (List ℕ)} {x : List ℕ} → Well ps x → good_paths ps ≡ true
unfolding good_paths
well-good {ps} {x} w = and_i _ _ (and_i (all is_path ps) (ascending ps) w.paths w.upward) (in_all (λ p. all (λ q. not (above p q)) ps) ps (λ p i. in_all (λ q. not (above p q)) ps (λ r j. rw (w.apart p r i j))))

-- READING ON: two paths agree up to i; the marks are cleared up to i.
pub record Agreeing (x q : List ℕ) (i : ℕ) : Type 0 where
  pub short : i ≤ length x
  pub inside : i ≤ length q
  pub same : take i x ≡ take i q

pub agreeing-start : (x q : List ℕ) → Agreeing x q 0
agreeing-start x q = record { short = omega arith; inside = omega arith; same = refl }

module _ {x q : List ℕ} {i : ℕ} (s : Agreeing x q i) where
  pub agreeing-on : i < length x → i < length q → get_or x i 0 ≡ get_or q i 0 → Agreeing x q (i + 1)
  agreeing-on h k e = rw add-one (record { short = h; inside = k; same = take-suc x i 0 h ∙ rw (s.same, e) (sym (take-suc q i 0 k)) })

  pub agreeing-end : {n : ℕ} → n ≡ min (length x) (length q) → n ≤ i → Agree x q n
  agreeing-end {n} e h =
      let z : i ≡ n = omega (arith, s.short, s.inside) in
      rw (← z) (record { short = s.short; inside = s.inside; same = s.same; ends = λ a b d. absurd (omega arith) })

  pub agreeing_differ : (get_or x i 0 ≡ get_or q i 0 → ⊥) → Agree x q i
  agreeing_differ h = record { short = s.short; inside = s.inside; same = s.same; ends = λ a b e. h e }

-- A path of n bytes may follow the last one.
unfoldable pub keeps : List ℕ → List ℕ → ℕ → List Bool → Bool
keeps x q k o = is_path q && (less x q && not (eqb (get_or q k 0) 47 && get_or o k false))

module _ (x q : List ℕ) (k : ℕ) (o : List Bool) where
  pub keeps-path : {c : Bool} → c ≡ is_path q → c ≡ false → false ≡ keeps x q k o
  unfolding keeps
  keeps-path e h = rw (sym e ∙ h)

  pub keeps-order : {c d : Bool} → c ≡ is_path q → c ≡ true → d ≡ less x q → d ≡ false → false ≡ keeps x q k o
  unfolding keeps
  keeps-order e h f g = rw (sym e ∙ h, sym f ∙ g)

  pub keeps-clash : {c d r : Bool} → c ≡ is_path q → c ≡ true → d ≡ less x q → d ≡ true → r ≡ (eqb (get_or q k 0) 47 && get_or o k false) → not r ≡ keeps x q k o
  unfolding keeps
  keeps-clash e h f g t = rw (t, sym e ∙ h, sym f ∙ g)

pub order-inside : {x q : List ℕ} {k : ℕ} → Agree x q k → {d : Bool} → d ≡ less x q → d ≡ true → k < length q
order-inside {x} {q} {k} s e t = at (dec_le (length q) k)
  where
    at : Dec (length q ≤ k) → k < length q
    at (yes h) = absurd (true≢false (sym t ∙ e ∙ sym (ordered-none s h)))
    at (no h) = omega arith
