-- The walk over a bundle's entries: what is still to be read, and the paths so far.
use Rattle.std.specs.Prelude.{Option as Maybe, Some, None, ◌≡◌, List, [], ◌∷◌, ◌++◌, Bool, ◌&&◌, ℕ, suc, ◌+◌, ◌-◌, ◌≤◌, ◌<◌, eqb, leb, length, drop, get_or}
use Rattle.std.proofs.Math.Path.{refl, ap}
use Rattle.std.proofs.Common.{sym, ◌∙◌, append_assoc, append-nil, true≢false, arith, length-drop}
use Rattle.std.proofs.Math.Bool.{true, false, and-false}
use Rattle.std.proofs.Math.Option.{Option, none, some}
use Rattle.std.proofs.Math.Decide.{dec_le}
use borrow.Author.Tests.{le-leb, lt-leb, eq-eqb, ne_eqb, not-true}
use Rattle.rules.specs.Bytes.{is_path, less}
use Rattle.rules.specs.Layout.{Parser, bind, ◌>>=◌, pure, times, word16}
use Rattle.rules.specs.Bundle.{Entry, entry, good_paths, paths_of, bundle_of}
use Rattle.rules.specs.Answer.{is_some}
use Rattle.rules.proofs.Laws.Bool.{and_l, and_r}
use Rattle.paths.specs.Paths.{path-long}
use Rattle.paths.specs.Joined.{text}
use Rattle.paths.specs.declared.path.Path.{Path}
use Rattle.bundle_entries.specs.Whole.{finish, closing, bundle-rest}
use Rattle.bundle_entries.specs.Entries.{entry_of, path_at, IsHead}
use Rattle.bundle_layout.specs.Order.{Well, Marks, Marked, Agree, keeps, well-start, well-on, marks-on, bad_path, bad_order, bad_clash, well-good, order-inside}
use Rattle.bundle_entries.specs.declared.Head.{Head}
use Rattle.bundle_layout.specs.declared.walk.Walk.{Walk}

pub record Starts (w : Walk) : Type 0 where
  pub place : w.at ≡ 2
  pub none : text w.last ≡ []
  pub clear : get_or w.files 0 false ≡ false

-- The paths so far, the last of which the walk holds.
pub record Paths (ps : List (List ℕ)) (w : Walk) : Type 0 where
  pub well : Well ps (text w.last)
  pub marks : Marks ps (text w.last) w.files

-- One path more keeps the rules, or no bundle that goes on so does.
abbrev pub Follows : Walk → Path → Walk → Maybe Unit → Type 0
Follows w q r (Some u) = (ps : List (List ℕ)) → Paths ps w → Paths (ps ++ (text q ∷ [])) r
Follows w q r None = (ps : List (List ℕ)) → Paths ps w → (rest : List (List ℕ)) → good_paths (ps ++ (text q ∷ rest)) ≡ false

-- The walk has read the entries es of b and has n to read.
pub record Walked (b : List ℕ) (es : List Entry) (n : ℕ) (w : Walk) : Type 0 where
  pub place : w.at ≤ length b
  pub rest : bundle_of b ≡ closing es (times n (entry (length b)) (drop w.at b))
  pub paths : Paths (paths_of es) w

-- One entry more, or the bundle breaks its layout.
abbrev pub Next : List ℕ → Walk → Walk → Maybe Unit → Type 0
Next b w r (Some u) = (es : List Entry) (n : ℕ) → Walked b es (suc n) w → (e : Entry) × Walked b (es ++ (e ∷ [])) n r
Next b w r None = (es : List Entry) (n : ℕ) → Walked b es (suc n) w → bundle_of b ≡ none

-- x is the bundle of the bytes b, which keep the layout.
pub record IsBundle (b x : List ℕ) : Type 0 where
  pub bytes : x ≡ b
  pub layout : is_some (bundle_of b) ≡ true

-- It is there, or the bytes break the layout.
abbrev pub Checks : List ℕ → Maybe (List ℕ) → Type 0
Checks b (Some x) = IsBundle b x
Checks b None = is_some (bundle_of b) ≡ false

-- THE WAYS THROUGH THE WALK.
module _ {x q : List ℕ} {k : ℕ} (s : Agree x q k) (o : List Bool) {c : Bool} (e : c ≡ keeps x q k o) where
  pub keeps-inside : c ≡ true → k < length q
  unfolding keeps
  keeps-inside t = order-inside s refl (and_l (less x q) _ (and_r (is_path q) _ (sym e ∙ t)))

  broken-at : {ps : List (List ℕ)} (a d f : Bool) → is_path q ≡ a → less x q ≡ d → (eqb (get_or q k 0) 47 && get_or o k false) ≡ f → c ≡ false → Well ps x → Marks ps x o → (rest : List (List ℕ)) → good_paths (ps ++ (q ∷ rest)) ≡ false
  unfolding keeps
  broken-at false d f p l g t w m rest = bad_path w q p rest
  broken-at true false f p l g t w m rest = bad_order w q l rest
  broken-at true true true p l g t w m rest = bad_clash w q s m (order-inside s refl l) g rest
  broken-at true true false p l g t w m rest = absurd (true≢false (sym (e ∙ rw (p, l, g)) ∙ t))

module _ (x q : List ℕ) (k : ℕ) (o : List Bool) (h : keeps x q k o ≡ true) where
  kept-path : is_path q ≡ true
  unfolding keeps
  kept-path = and_l (is_path q) _ h

  kept-order : less x q ≡ true
  unfolding keeps
  kept-order = and_l (less x q) _ (and_r (is_path q) _ h)

  kept-clash : (eqb (get_or q k 0) 47 && get_or o k false) ≡ false
  unfolding keeps
  kept-clash = not-true _ (and_r (less x q) _ (and_r (is_path q) _ h))

module _ (w : Walk) (p : Path) {x q : List ℕ} (a : x ≡ text w.last) (d : q ≡ text p) {k : ℕ} (s : Agree x q k) {c : Bool} (e : c ≡ keeps x q k w.files) where
  agreed : Agree (text w.last) (text p) k
  agreed = rw (a, d) at s

  pub follow_no : (r : Walk) → c ≡ false → Follows w p r None
  follow_no r t ps P = broken-at agreed w.files (rw (a, d) at e) _ _ _ refl refl refl t P.well P.marks

  pub follow_yes : c ≡ true → (r : Walk) → r.last ≡ p → Marked w.files r.files k (length q) → Follows w p r (Some tt)
  follow_yes t r z m ps P = rw z (record {
    well = well-on P.well agreed P.marks ordered path slashless;
    marks = marks-on P.well agreed P.marks ordered (keeps-inside agreed w.files kept refl) (rw d at m);
  })
    where
      kept : true ≡ keeps (text w.last) (text p) k w.files
      kept = rw (t, a, d) at e

      path : is_path (text p) ≡ true
      path = kept-path (text w.last) (text p) k w.files (sym kept)

      ordered : less (text w.last) (text p) ≡ true
      ordered = kept-order (text w.last) (text p) k w.files (sym kept)

      slashless : (eqb (get_or (text p) k 0) 47 && get_or w.files k false) ≡ false
      slashless = kept-clash (text w.last) (text p) k w.files (sym kept)

-- ENTRIES read one by one.
paths-more : (es : List Entry) (e : Entry) (fs : List Entry) → paths_of (es ++ (e ∷ fs)) ≡ paths_of es ++ (e.path ∷ paths_of fs)
unfolding paths_of
paths-more [] e fs = refl
paths-more (d ∷ es) e fs = ap (λ z. d.path ∷ z) (paths-more es e fs)

closing-onto : (es : List Entry) (e : Entry) (v : Option (List Entry × List ℕ)) → closing es (bind v (λ s. some (e ∷ s.0, s.1))) ≡ closing (es ++ (e ∷ [])) v
unfolding closing bind
closing-onto es e none = refl
closing-onto es e (some s) = ap (finish (length s.1)) (sym (append_assoc es (e ∷ []) s.0))

module _ (p : Parser Entry) (t : List ℕ) (n : ℕ) where
  times_none : p t ≡ none → times (suc n) p t ≡ none
  unfolding times ◌>>=◌ bind
  times_none e = rw e

  closing-more : (es : List Entry) (e : Entry) (u : List ℕ) → p t ≡ some (e, u) → closing es (times (suc n) p t) ≡ closing (es ++ (e ∷ [])) (times n p u)
  unfolding times ◌>>=◌ bind pure
  closing-more es e u q = rw q (closing-onto es e (times n p u))

finish_bad : (r : ℕ) (es : List Entry) → good_paths (paths_of es) ≡ false → finish r es ≡ none
unfolding finish
finish_bad r es h = rw (h, and-false (leb r 0), finish)

finish-good : (r : ℕ) (es : List Entry) → good_paths (paths_of es) ≡ true → is_some (finish r es) ≡ leb r 0
unfolding finish is_some
finish-good r es h = at (leb r 0) refl
  where
    at : (c : Bool) → leb r 0 ≡ c → is_some (finish r es) ≡ leb r 0
    at true q = rw (h, q, finish)
    at false q = rw (q, finish)

closing_bad : (es : List Entry) (e : Entry) (v : Option (List Entry × List ℕ)) → ((rest : List (List ℕ)) → good_paths (paths_of es ++ (e.path ∷ rest)) ≡ false) → closing (es ++ (e ∷ [])) v ≡ none
unfolding closing
closing_bad es e none h = refl
closing_bad es e (some s) h =
    let z : good_paths (paths_of (es ++ (e ∷ []) ++ s.0)) ≡ false = ap (λ l. good_paths (paths_of l)) (append_assoc es (e ∷ []) s.0) ∙ ap good_paths (paths-more es e s.0) ∙ h (paths_of s.0) in
    finish_bad (length s.1) (es ++ (e ∷ []) ++ s.0) z

-- THE WAYS THROUGH A STEP of the walk.
module _ (b : List ℕ) (w : Walk) where
  pub next-no-entry : (r : Walk) → entry (length b) (drop w.at b) ≡ none → Next b w r None
  unfolding closing
  next-no-entry r e es n W = W.rest ∙ ap (closing es) (times_none (entry (length b)) (drop w.at b) n e)

  module _ {h : Head} (H : IsHead b (entry (length b)) w.at h) where
    more : (es : List Entry) (n : ℕ) → Walked b es (suc n) w → bundle_of b ≡ closing (es ++ (entry_of b h ∷ [])) (times n (entry (length b)) (drop h.content.to b))
    more es n W = W.rest ∙ closing-more (entry (length b)) (drop w.at b) n es (entry_of b h) (drop h.content.to b) H.reads

    path-here : path_at b h ≡ (entry_of b h).path
    unfolding entry_of
    path-here = refl

    pub next-no-path : (r : Walk) → 255 < length (path_at b h) → Next b w r None
    next-no-path r q es n W =
        let z : is_path (entry_of b h).path ≡ false = sym (path-long (entry_of b h).path (rw path-here at q)) in
        more es n W ∙ closing_bad es (entry_of b h) _ (λ rest. bad_path W.paths.well (entry_of b h).path z rest)

    module _ (p : Path) (P : text p ≡ path_at b h) where
      pub next_broken : (r s : Walk) → Follows w p r None → Next b w s None
      next_broken r s F es n W = more es n W ∙ closing_bad es (entry_of b h) _ (λ rest. rw (P ∙ path-here) at (F (paths_of es) W.paths rest))

      pub next_follow : (r s : Walk) → Follows w p r (Some tt) → s.at ≡ h.content.to → s.last ≡ r.last → s.files ≡ r.files → Next b w s (Some tt)
      unfolding paths_of
      next_follow r s F a l f es n W =
          let Q : Paths (paths_of es ++ ((entry_of b h).path ∷ [])) r = rw (P ∙ path-here) at (F (paths_of es) W.paths) in (
            entry_of b h,
            record {
              place = rw a H.content.inside;
              rest = more es n W ∙ ap (λ i. closing (es ++ (entry_of b h ∷ [])) (times n (entry (length b)) (drop i b))) (sym a);
              paths = rw (paths-more es (entry_of b h) []) (record { well = rw l Q.well; marks = rw (l, f) Q.marks });
            },
          )

-- THE CHECK.
abbrev pub Walking : List ℕ → ℕ → Walk → Type 0
Walking b n w = (es : List Entry) × Walked b es n w

pub walking_start : (b : List ℕ) {n : ℕ} → 1 < length b → word16 b ≡ some (n, drop 2 b) → {w : Walk} → Starts w → Walking b (n - 0) w
unfolding paths_of
walking_start b {n} h e {w} s = (
  [],
  rw z (record {
    place = omega (arith, s.place);
    rest = rw s.place (bundle-rest b e);
    paths = record { well = rw s.none well-start; marks = rw s.none (record { on = λ l g m. absurd (unmarked l g m); off = λ l g i. absurd i }) };
  }),
)
  where
    z : n - 0 ≡ n
    z = omega arith

    unmarked : (l : ℕ) → l ≤ 0 → get_or w.files l false ≡ true → ⊥
    unmarked l g m = let z : l ≡ 0 = omega arith in true≢false (sym (rw z at m) ∙ s.clear)

module _ (b : List ℕ) {n k : ℕ} {w : Walk} (h : k < n) (W : Walking b (n - k) w) (r : Walk) where
  last : Walked b W.0 (suc (n - (k + 1))) w
  last = let z : n - k ≡ suc (n - (k + 1)) = omega arith in rw z at W.1

  pub walking_on : {u : Unit {0}} → Next b w r (Some u) → Walking b (n - (k + 1)) r
  walking_on N = let x = N W.0 (n - (k + 1)) last in (W.0 ++ (x.0 ∷ []), x.1)

  pub walking-no : Next b w r None → is_some (bundle_of b) ≡ false
  unfolding is_some
  walking-no N = rw (N W.0 (n - (k + 1)) last)

pub walking-end : (b : List ℕ) {n k : ℕ} {w : Walk} → n ≤ k → Walking b (n - k) w → is_some (bundle_of b) ≡ eqb w.at (length b)
unfolding times pure closing
walking-end b {n} {k} {w} h W =
    let z : n - k ≡ 0 = omega arith in
    let q : bundle_of b ≡ finish (length (drop w.at b)) (W.0 ++ []) = rw z at W.1.rest in
    ap is_some q ∙ finish-good (length (drop w.at b)) (W.0 ++ []) (ap (λ l. good_paths (paths_of l)) (append-nil W.0) ∙ well-good W.1.paths.well) ∙ whole w.at W.1.place
  where
    whole : (i : ℕ) → i ≤ length b → leb (length (drop i b)) 0 ≡ eqb i (length b)
    whole i g = at (dec_le (length b) i)
      where
        at : Dec (length b ≤ i) → leb (length (drop i b)) 0 ≡ eqb i (length b)
        at (yes l) = le-leb (length (drop i b)) 0 (omega (arith, length-drop i b)) ∙ sym (eq-eqb i (length b) (omega arith))
        at (no l) = lt-leb (length (drop i b)) 0 (omega (arith, length-drop i b)) ∙ sym (ne_eqb i (length b) (λ e. absurd (omega arith)))
