-- Looking a path up in a bundle.
use Rattle.std.proofs.Math.Path.{◌≡◌, sym, ap}
use Rattle.std.specs.Prelude.{Option as Maybe, Some, None, IsSome, refl, Bool, true, false, ◌&&◌, ◌||◌, ℕ, suc, ◌+◌, ◌-◌, ◌≤◌, ◌<◌, eqb, leb}
use Rattle.std.proofs.lemmas.Bool.{lt-leb}
use Rattle.std.proofs.Common.{◌∙◌, true≢false, eq-eqb, eqb-true}
use mathlib.Core.List.{List, [], ◌∷◌, ◌++◌}
use Rattle.std.proofs.Math.Bool.{and_assoc, or_assoc, or-false}
use Rattle.std.proofs.Math.Option.{Option, none, some, none-ne-some}
use native.Mathlib.Omega.{arith}
use Rattle.std.proofs.Math.Decide.{dec_le}
use Rattle.std.proofs.Math.ListN.{length, drop, length-drop}
use Rattle.std.proofs.Math.Seq.{length-take-le}
use Rattle.rules.specs.Reader.{all, prefix, same, sees}
use Rattle.rules.specs.Bytes.{is_path}
use Rattle.rules.specs.Layout.{Parser, bind, ◌>>=◌, pure, times, word16}
use Rattle.rules.specs.Bundle.{Entry, entry, above, ascending, good_paths, paths_of, bundle_of}
use Rattle.rules.specs.Files.{File, absent, folder, file, entry_at, is_folder_of, file_of, view}
use Rattle.rules.specs.Answer.{is_some}
use Rattle.rules.proofs.Laws.Bool.{and_l, and_r}
use Rattle.rules.proofs.Laws.Found.{some_same}
use Rattle.scan.specs.Sets.{part, Within, Starts, Sees, byte_is}
use Rattle.paths.specs.Joined.{JoinsIn}
use Rattle.paths.specs.declared.path.Path.{Path}
use Rattle.bundle_entries.specs.Entries.{entry_of, path_at, IsHead, HeadAt}
use Rattle.bundle_entries.specs.Whole.{closing, finish, bundle-rest, check-short}
use Rattle.bundle_entries.specs.declared.Head.{Head}
use Rattle.bundle.specs.declared.Found.{Found}
use Rattle.bundle.specs.declared.Found.TheVariants.{Absent, Folder, File as At}

-- The entries of a bundle; none where it breaks its layout.
unfoldable pub some_of : Option (List Entry) → List Entry
some_of none = []
some_of (some es) = es

unfoldable pub entries_of : List ℕ → List Entry
entries_of b = some_of (bundle_of b)

pub entries-some : (b : List ℕ) (es : List Entry) → bundle_of b ≡ some es → entries_of b ≡ es
unfolding entries_of some_of
entries-some b es e = rw e

-- What was found, of an entry and of a folder; as sections 4 to 7 see it.
unfoldable pub located : Option Entry → Bool → Found
located (some e) f = At (record { from = e.start; to = e.start + length e.content })
located none true = Folder
located none false = Absent

unfoldable pub file_at : List ℕ → Found → File
file_at b Absent = absent
file_at b Folder = folder
file_at b (At r) = file (part b r.from r.to)

-- A file's content lies in the bundle.
abbrev pub Inside : List ℕ → Found → Type 0
Inside b Absent = Unit {0}
Inside b Folder = Unit {0}
Inside b (At r) = Within b r

pub record Finds (b : List ℕ) (es : List Entry) (p : List ℕ) (r : Found) : Type 0 where
  pub says : r ≡ located (entry_at es p) (is_folder_of es p)
  pub seen : view es p ≡ file_at b r
  pub inside : Inside b r

-- TWO PATHS.
pub eqb_comm : (a b : ℕ) → eqb a b ≡ eqb b a
eqb_comm a b = at (eqb a b) (eqb b a) refl refl
  where
    at : (c d : Bool) → eqb a b ≡ c → eqb b a ≡ d → eqb a b ≡ eqb b a
    at true d e f = e ∙ sym (eq-eqb b a (sym (eqb-true a b e)))
    at false true e f = absurd (true≢false (sym (eq-eqb a b (sym (eqb-true b a f))) ∙ e))
    at false false e f = e ∙ sym f

prefix-slash : (p q : List ℕ) → prefix (p ++ (47 ∷ [])) q ≡ (prefix p q && (sees (byte_is 47) (drop (length p) q)).0)
unfolding prefix sees
prefix-slash [] [] = refl
prefix-slash [] (x ∷ xs) = at (eqb x 47) (eqb 47 x) (eqb_comm 47 x)
  where
    at : (c d : Bool) → d ≡ c → (d && true) ≡ c
    at c true e = e
    at c false e = e
prefix-slash (c ∷ p) [] = refl
prefix-slash (c ∷ p) (x ∷ xs) = ap (λ z. eqb c x && z) (prefix-slash p xs) ∙ sym (and_assoc (eqb c x) (prefix p xs) _)

module _ (p q : List ℕ) {r : Bool} (s : Starts p q 0 r) where
  pub above-no : r ≡ false → false ≡ above p q
  unfolding above
  above-no e = sym (prefix-slash p q ∙ rw (s.says ∙ e))

  pub above_at : r ≡ true → {t : Bool} → Sees (byte_is 47) q (length p) t → t ≡ above p q
  unfolding above
  above_at e g = sym (prefix-slash p q ∙ rw (s.says ∙ e, g.says))

-- THE SEARCH has n entries to read from i on; f: is a path below p among those before.
pub record Finding (b p : List ℕ) (n i : ℕ) (f : Bool) : Type 0 where
  pub more : List Entry
  pub behind : List ℕ
  pub place : i ≤ length b
  pub rest : times n (entry (length b)) (drop i b) ≡ some (more, behind)
  pub paths : all is_path (paths_of more) ≡ true
  pub asked : entry_at (entries_of b) p ≡ entry_at more p
  pub folders : is_folder_of (entries_of b) p ≡ (f || is_folder_of more p)

closing_inv : (v : Option (List Entry × List ℕ)) → is_some (closing [] v) ≡ true → (s : List Entry × List ℕ) × (v ≡ some s) × (good_paths (paths_of s.0) ≡ true) × (closing [] v ≡ some s.0)
unfolding closing finish is_some
closing_inv none h = absurd (true≢false (sym h))
closing_inv (some s) h = at (leb (length s.1) 0 && good_paths (paths_of s.0)) refl
  where
    at : (c : Bool) → (leb (length s.1) 0 && good_paths (paths_of s.0)) ≡ c → (r : List Entry × List ℕ) × (some s ≡ some r) × (good_paths (paths_of r.0) ≡ true) × (closing [] (some s) ≡ some r.0)
    at true q = (s, refl, and_r (leb (length s.1) 0) _ q, rw (q, finish))
    at false q = absurd (true≢false (sym (rw (q, finish) at h)))

pub find_long : (b : List ℕ) → is_some (bundle_of b) ≡ true → 1 < length b
find_long b h = at (dec_le (length b) 1)
  where
    at : Dec (length b ≤ 1) → 1 < length b
    at (yes k) = absurd (true≢false (sym h ∙ sym (check-short b (omega arith))))
    at (no k) = omega arith

pub finding-start : (b p : List ℕ) {n : ℕ} → is_some (bundle_of b) ≡ true → word16 b ≡ some (n, drop 2 b) → Finding b p n 2 false
unfolding entries_of some_of good_paths
finding-start b p {n} h e =
    let l = find_long b h in
    let q = bundle-rest b e in
    let x = closing_inv (times n (entry (length b)) (drop 2 b)) (rw q at h) in
    let z : entries_of b ≡ x.0.0 = entries-some b x.0.0 (q ∙ x.3) in
    record {
      more = x.0.0;
      behind = x.0.1;
      place = omega arith;
      rest = x.1;
      paths = and_l (all is_path (paths_of x.0.0)) _ (and_l (all is_path (paths_of x.0.0) && ascending (paths_of x.0.0)) _ x.2);
      asked = ap (λ es. entry_at es p) z;
      folders = ap (λ es. is_folder_of es p) z;
    }

asked-yes : (e : Entry) (es : List Entry) (p : List ℕ) → same e.path p ≡ true → entry_at (e ∷ es) p ≡ some e
unfolding entry_at
asked-yes e es p h = rw (h, entry_at)

asked-no : (e : Entry) (es : List Entry) (p : List ℕ) → same e.path p ≡ false → entry_at (e ∷ es) p ≡ entry_at es p
unfolding entry_at
asked-no e es p h = rw (h, entry_at)

record Cut (p : Parser Entry) (t : List ℕ) (n : ℕ) (fs : List Entry) (u : List ℕ) : Type 0 where
  pub first : Entry
  pub mid : List ℕ
  pub later : List Entry
  pub one : p t ≡ some (first, mid)
  pub rest : times n p mid ≡ some (later, u)
  pub split : fs ≡ first ∷ later

cut : (p : Parser Entry) (t : List ℕ) (n : ℕ) {fs : List Entry} {u : List ℕ} → times (suc n) p t ≡ some (fs, u) → Cut p t n fs u
unfolding times ◌>>=◌ bind pure
cut p t n {fs} {u} h = at (p t) refl
  where
    at2 : (e : Entry) (m : List ℕ) → p t ≡ some (e, m) → (v : Option (List Entry × List ℕ)) → times n p m ≡ v → Cut p t n fs u
    at2 e m q none z = absurd (none-ne-some _ (rw (q, z) at h))
    at2 e m q (some s) z =
        let k : ◌≡◌ {A = Option (List Entry × List ℕ)} (some (e ∷ s.0, s.1)) (some (fs, u)) = rw (q, z) at h in
        let k2 : ◌≡◌ {A = List Entry × List ℕ} (e ∷ s.0, s.1) (fs, u) = some_same k in
        record { first = e; mid = m; later = s.0; one = q; rest = z ∙ ap (λ y. some (s.0, y)) (ap (λ y. y.1) k2); split = sym (ap (λ y. y.0) k2) }

    at : (v : Option (Entry × List ℕ)) → p t ≡ v → Cut p t n fs u
    at none q = absurd (none-ne-some _ (rw q at h))
    at (some r) q = at2 r.0 r.1 q (times n p r.1) refl

-- The entry of the search that stands at i, if one is left.
pub is-there : {b p : List ℕ} {n i : ℕ} {f : Bool} → Finding b p n i f → (m : ℕ) → n ≡ suc m → (v : Maybe Head) → HeadAt b (entry (length b)) i v → IsSome v
is-there F m z (Some h) H = refl
is-there {b} {p} {n} {i} F m z None H = absurd (none-ne-some _ (sym H ∙ (cut (entry (length b)) (drop i b) m (rw z at F.rest)).one))

pub record Ahead (b p : List ℕ) (m : ℕ) (f : Bool) (h : Head) : Type 0 where
  pub later : List Entry
  pub behind : List ℕ
  pub rest : times m (entry (length b)) (drop h.content.to b) ≡ some (later, behind)
  pub path : is_path (entry_of b h).path ≡ true
  pub paths : all is_path (paths_of later) ≡ true
  pub asked : entry_at (entries_of b) p ≡ entry_at (entry_of b h ∷ later) p
  pub folders : is_folder_of (entries_of b) p ≡ (f || is_folder_of (entry_of b h ∷ later) p)

pub ahead : {b p : List ℕ} {n i : ℕ} {f : Bool} → Finding b p n i f → {m : ℕ} → n ≡ suc m → {h : Head} → IsHead b (entry (length b)) i h → Ahead b p m f h
unfolding paths_of all
ahead {b} {p} {n} {i} {f} F {m} z {h} H =
    let c = cut (entry (length b)) (drop i b) m (rw z at F.rest) in
    let x = some_same (sym H.reads ∙ c.one) in
    let s : F.more ≡ entry_of b h ∷ c.later = c.split ∙ ap (λ y. y ∷ c.later) (sym (ap (λ y. y.0) x)) in
    let a : all is_path (paths_of (entry_of b h ∷ c.later)) ≡ true = ap (λ y. all is_path (paths_of y)) (sym s) ∙ F.paths in
    record {
      later = c.later;
      behind = F.behind;
      rest = ap (times m (entry (length b))) (ap (λ y. y.1) x) ∙ c.rest;
      path = and_l (is_path (entry_of b h).path) _ a;
      paths = and_r (is_path (entry_of b h).path) _ a;
      asked = F.asked ∙ ap (λ y. entry_at y p) s;
      folders = F.folders ∙ ap (λ y. f || is_folder_of y p) s;
    }

path-short : (p : List ℕ) → is_path p ≡ true → leb (length p) 255 ≡ true
unfolding is_path
path-short p h = and_r (leb 1 (length p)) _ (and_l (leb 1 (length p) && leb (length p) 255) _ h)

folder-cons : (e : Entry) (es : List Entry) (p : List ℕ) → is_folder_of (e ∷ es) p ≡ (above p e.path || is_folder_of es p)
unfolding is_folder_of all
folder-cons e es p = at (above p e.path) refl
  where
    at : (c : Bool) → above p e.path ≡ c → is_folder_of (e ∷ es) p ≡ (above p e.path || is_folder_of es p)
    at true q = rw q
    at false q = rw q

module _ {b p : List ℕ} {m : ℕ} {f : Bool} {h : Head} (A : Ahead b p m f h) where
  path-here : path_at b h ≡ (entry_of b h).path
  unfolding entry_of
  path-here = refl

  pub reachable : (q : Path) (v : Maybe Unit) → JoinsIn (part b h.folder.from h.folder.to) (part b h.name.from h.name.to) q v → IsSome v
  reachable q (Some u) J = refl
  reachable q None J = absurd (true≢false (sym (path-short _ A.path) ∙ lt-leb _ 255 (rw path-here at J)))

  module _ {i : ℕ} (H : IsHead b (entry (length b)) i h) {t : List ℕ} (T : t ≡ path_at b h) where
    pub finding-same : {c : Bool} → c ≡ same t p → c ≡ true → Finds b (entries_of b) p (At h.content)
    unfolding located file_at view file_of entry_of
    finding-same {c} N e =
        let y : h.content.to - h.content.from ≤ length (drop h.content.from b) = omega (arith, H.content.order, H.content.inside, length-drop h.content.from b) in
        let l : length (part b h.content.from h.content.to) ≡ h.content.to - h.content.from = length-take-le (h.content.to - h.content.from) (drop h.content.from b) y in
        let z : h.content.from + (h.content.to - h.content.from) ≡ h.content.to = omega (arith, H.content.order) in
        let k : entry_at (entries_of b) p ≡ some (entry_of b h) = A.asked ∙ asked-yes (entry_of b h) A.later p (rw (T ∙ path-here, e) at (sym N)) in
        record { says = rw (k, l, z); seen = rw k; inside = H.content }

    pub finding-on : {c d : Bool} → c ≡ same t p → c ≡ false → d ≡ above p t → Finding b p m h.content.to (f || d)
    finding-on {c} {d} N e U = record {
      more = A.later;
      behind = A.behind;
      place = H.content.inside;
      rest = A.rest;
      paths = A.paths;
      asked = A.asked ∙ asked-no (entry_of b h) A.later p (rw (T ∙ path-here, e) at (sym N));
      folders = A.folders ∙ ap (λ z. f || z) (folder-cons (entry_of b h) A.later p) ∙ rw (sym (rw (T ∙ path-here) at U)) (sym (or_assoc f d (is_folder_of A.later p)));
    }

module _ {b p : List ℕ} {n i : ℕ} {f : Bool} (F : Finding b p n i f) (k : n ≤ 0) where
  none_left : F.more ≡ []
  unfolding times pure
  none_left =
      let z : n ≡ 0 = omega arith in
      let q : ◌≡◌ {A = Option (List Entry × List ℕ)} (some ([], drop i b)) (some (F.more, F.behind)) = rw z at F.rest in
      sym (ap (λ y. y.0) (some_same q))

  no-entry : entry_at (entries_of b) p ≡ none
  unfolding entry_at
  no-entry = F.asked ∙ ap (λ y. entry_at y p) none_left

  is-folder : is_folder_of (entries_of b) p ≡ f
  unfolding is_folder_of all
  is-folder = F.folders ∙ ap (λ y. f || is_folder_of y p) none_left ∙ or-false f

  pub finding-folder : f ≡ true → Finds b (entries_of b) p Folder
  unfolding located file_at view file_of
  finding-folder e = record { says = rw (no-entry, is-folder ∙ e); seen = rw (no-entry, is-folder ∙ e); inside = omega arith }

  pub finding-absent : f ≡ false → Finds b (entries_of b) p Absent
  unfolding located file_at view file_of
  finding-absent e = record { says = rw (no-entry, is-folder ∙ e); seen = rw (no-entry, is-folder ∙ e); inside = omega arith }
