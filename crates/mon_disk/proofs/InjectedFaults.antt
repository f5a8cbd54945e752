-- An injected fault that begins changes nothing at a disk's earlier points.
use Rattle.std.proofs.Common.{inr, ◌≡◌, ℕ, zero, suc, pred, ◌+◌, ◌<◌, ◌≤◌, List, [], ◌∷◌, ◌++◌, map, length, get_or, reverse, Option, Some, None, refl, sym, ap, ◌∙◌, subst, arith}
use Rattle.std.specs.List.{flat_map}
use Rattle.std.proofs.lemmas.List.{take_all, drop_all, length-append, length-map}
use Rattle.mon_disk.specs.declared.disk.DiskCall.{DiskCall}
use Rattle.mon_disk.specs.Images.{Content, images, LeavesOnly}
use Rattle.mon_disk.specs.Memory.{InjectedFault, Lived, first_write, done, lost_of, begun, LeftAfter, seen_after, seen_of}
use Rattle.mon_disk.specs.MemoryDisk.{injected_life, with_calls, Leaves, beginnings, before_calls, content_of}
use Rattle.mon_disk.proofs.Lives.{as_cut}

-- the life with an injected fault that no call has reached, and without one
abbrev pub injected_after : List ℕ → InjectedFault → List DiskCall → Lived
injected_after first u calls = record { first = first; calls = calls; upset = Some u }

abbrev pub sound_life : List ℕ → List DiskCall → Lived
sound_life first calls = record { first = first; calls = calls; upset = None }

pub all_done : (first : List ℕ) (u : InjectedFault) (calls : List DiskCall) → length calls < u.from → done (injected_after first u calls) ≡ reverse calls
all_done first u calls before = ap reverse (take_all (pred u.from) calls (omega (arith, before)))

pub all_begun : (first : List ℕ) (u : InjectedFault) (calls : List DiskCall) → length calls < u.from → begun (injected_after first u calls) ≡ reverse calls
all_begun first u calls before =
    let none : lost_of (Some u.from) calls ≡ [] = ap first_write (drop_all (pred u.from) calls (omega (arith, before))) in
    ap (λ (cs : List DiskCall). cs ++ done (injected_after first u calls)) none ∙ all_done first u calls before

forth : (first : List ℕ) (u : InjectedFault) (calls : List DiskCall) → length calls < u.from → (c : List ℕ) → Leaves (sound_life first calls) c → Leaves (injected_after first u calls) c
forth first u calls before c left =
    let cut : LeftAfter first (reverse calls) c = as_cut (sound_life first calls) c left in
    inr (inr (subst (λ (cs : List DiskCall). LeftAfter first cs c) (sym (all_begun first u calls before)) cut))

back : (first : List ℕ) (u : InjectedFault) (calls : List DiskCall) → length calls < u.from → (c : List ℕ) → Leaves (injected_after first u calls) c → Leaves (sound_life first calls) c
back first u calls before c left = inr (inr (subst (λ (cs : List DiskCall). LeftAfter first cs c) (all_begun first u calls before) (as_cut (injected_after first u calls) c left)))

map_twice : {X Y Z : Type 0} (f : Y → Z) (g : X → Y) (xs : List X) → map f (map g xs) ≡ map (λ x. f (g x)) xs
map_twice f g [] = refl
map_twice f g (x ∷ xs) = ap (λ l. f (g x) ∷ l) (map_twice f g xs)

-- what holds of two lives at each beginning of their calls holds of them at each point
along : (P : Lived → Lived → Type 0) (f g : List DiskCall → Lived) (calls : List DiskCall) (t : ℕ) → ((cs : List DiskCall) → length cs ≤ length calls → P (f cs) (g cs))
    → P (get_or (map f (beginnings calls)) t (f calls)) (get_or (map g (beginnings calls)) t (g calls))
along P f g [] t here = here [] (omega arith)
along P f g (x ∷ calls) zero here = here [] (omega arith)
along P f g (x ∷ calls) (suc t) here =
    let on = λ (cs : List DiskCall). x ∷ cs in
    let each = along P (λ cs. f (x ∷ cs)) (λ cs. g (x ∷ cs)) calls t (λ cs le. here (x ∷ cs) (omega (arith, le))) in
    let left : P (get_or (map f (map on (beginnings calls))) t (f (x ∷ calls))) (get_or (map (λ cs. g (x ∷ cs)) (beginnings calls)) t (g (x ∷ calls))) =
    subst (λ (l : List Lived). P (get_or l t (f (x ∷ calls))) (get_or (map (λ cs. g (x ∷ cs)) (beginnings calls)) t (g (x ∷ calls)))) (sym (map_twice f on (beginnings calls))) each in
    subst (λ (l : List Lived). P (get_or (map f (map on (beginnings calls))) t (f (x ∷ calls))) (get_or l t (g (x ∷ calls)))) (sym (map_twice g on (beginnings calls))) left

behind : (P : Lived → Lived → Type 0) → ((l : Lived) → P l l) → (lives xs ys : List Lived) (a b : Lived) (t : ℕ) → ((s : ℕ) → P (get_or xs s a) (get_or ys s b)) → P (get_or (lives ++ xs) t a) (get_or (lives ++ ys) t b)
behind P same [] xs ys a b t each = each t
behind P same (l ∷ lives) xs ys a b zero each = same l
behind P same (l ∷ lives) xs ys a b (suc t) each = behind P same lives xs ys a b t each

module _ (past : List Lived) (first : List ℕ) (calls : List DiskCall) (u : InjectedFault) (before : length calls < u.from) where
  abbrev sound : Lived
  sound = sound_life first calls

  abbrev upset : Lived
  upset = injected_after first u calls

  abbrev lives : List Lived
  lives = flat_map (λ (l : Lived). before_calls l ++ l ∷ []) past

  pub injected_seen : seen_of (injected_after first u calls) ≡ seen_of (sound_life first calls)
  injected_seen = ap (seen_after first) (all_done first u calls before)

  same_time : (content_of past (injected_after first u calls)).time ≡ (content_of past (sound_life first calls)).time
  same_time =
      omega (
        arith,
        length-append lives (map (with_calls upset) (beginnings calls)),
        length-append lives (map (with_calls sound) (beginnings calls)),
        length-map (beginnings calls) (with_calls upset),
        length-map (beginnings calls) (with_calls sound),
      )

  at_back : (t : ℕ) (c : List ℕ) → (content_of past (injected_after first u calls)).images_at t c → (content_of past (sound_life first calls)).images_at t c
  at_back t =
      let P = λ (a b : Lived). (c : List ℕ) → Leaves a c → Leaves b c in
      behind P (λ l c left. left) lives (map (with_calls upset) (beginnings calls)) (map (with_calls sound) (beginnings calls)) upset sound t
      (λ s. along P (with_calls upset) (with_calls sound) calls s (λ cs le. back first u cs (omega (arith, le, before))))

  at_forth : (t : ℕ) (c : List ℕ) → (content_of past (sound_life first calls)).images_at t c → (content_of past (injected_after first u calls)).images_at t c
  at_forth t =
      let P = λ (a b : Lived). (c : List ℕ) → Leaves a c → Leaves b c in
      behind P (λ l c left. left) lives (map (with_calls sound) (beginnings calls)) (map (with_calls upset) (beginnings calls)) sound upset t
      (λ s. along P (with_calls sound) (with_calls upset) calls s (λ cs le. forth first u cs (omega (arith, le, before))))

  pub injected_time : LeavesOnly (content_of past (sound_life first calls)) (content_of past (injected_after first u calls)) (images (content_of past (sound_life first calls)))
  injected_time = record {
    later = omega (arith, same_time);
    past = λ t c le left. at_back t c left;
    kept = λ t c le left. at_forth t c left;
    each = λ t c from to left.
        let now : t ≡ (content_of past (sound_life first calls)).time = omega (arith, from, to, same_time) in
        subst (λ (m : ℕ). (content_of past (sound_life first calls)).images_at m c) now (at_back t c left);
  }

-- the same of a life without an injected fault, and with the one that begins
module _ (past lives : List Lived) (kept : lives ≡ past) (life next : Lived) (call image : ℕ) (none : life.upset ≡ None) (some : 1 ≤ call) (is : next ≡ injected_life call image life) where
  abbrev u : InjectedFault
  u = record { from = length life.calls + call; image = image }

  before : length life.calls < length life.calls + call
  before = omega (arith, some)

  sound_is : sound_life life.first life.calls ≡ life
  sound_is = ap (λ (o : Option InjectedFault). record { first = life.first; calls = life.calls; upset = o }) (sym none)

  on : (P : Content → Content → Type 0) → P (content_of past (sound_life life.first life.calls)) (content_of past (injected_after life.first u life.calls)) → P (content_of past life) (content_of lives next)
  on P holds =
      let old : P (content_of past life) (content_of past (injected_after life.first u life.calls)) =
      subst (λ (l : Lived). P (content_of past l) (content_of past (injected_after life.first u life.calls))) sound_is holds in
      let new : P (content_of past life) (content_of past next) = subst (λ (l : Lived). P (content_of past life) (content_of past l)) (sym is) old in
      subst (λ (ls : List Lived). P (content_of past life) (content_of ls next)) (sym kept) new

  pub begins_seen : seen_of next ≡ seen_of life
  begins_seen = ap seen_of is ∙ injected_seen past life.first life.calls u before ∙ ap seen_of sound_is

  pub begins_time : LeavesOnly (content_of past life) (content_of lives next) (images (content_of past life))
  begins_time = on (λ x y. LeavesOnly x y (images x)) (injected_time past life.first life.calls u before)
