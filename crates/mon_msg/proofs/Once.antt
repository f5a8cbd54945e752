-- If each key is put once, joining doesn't change the list.
use Rattle.std.proofs.Common.{◌≡◌, ℕ, Bool, true, false, not, ◌&&◌, ◌||◌, List, [], ◌∷◌, ◌++◌, map, None, refl, sym, ap, ◌∙◌, append_assoc}
use Rattle.std.proofs.lemmas.Bool.{and_parts, not-true}
use Rattle.std.proofs.lemmas.List.{append-nil, map-append}
use Rattle.std.specs.List.{list_any}
use Rattle.mon_tx.specs.declared.op.Op.{Op}
use Rattle.mon_tx.specs.declared.key.Area.{Area}
use Rattle.mon_tx.specs.declared.key.Key.{Key}
use Rattle.mon_tx.specs.Keys.{place, same_area, same_key}
use Rattle.mon_tx.proofs.Ties.{place_tie}
use Rattle.mon_msg.specs.Joined.{puts, takes_away, or_here, replaced, or_last, joined_with, joined_onto, joined}
use Rattle.mon_msg.specs.Puts.{put}
use Rattle.mon_msg.proofs.Joining.{neither}

abbrev pub NamedPut : Type 0
NamedPut = Area × Key × List ℕ

abbrev pub put_of : NamedPut → Op
put_of n = put n.0 n.1 n.2

-- whether a key is put
abbrev pub is_put : Area → Key → List NamedPut → Bool
is_put a k [] = false
is_put a k (n ∷ ns) = (same_area a n.0 && same_key k n.1) || is_put a k ns

-- no key is put that was put before
abbrev pub are_new : List NamedPut → List NamedPut → Bool
are_new done [] = true
are_new done (n ∷ ns) = not (is_put n.0 n.1 done) && are_new (done ++ n ∷ []) ns

none_replaced : (a : Area) (k : Key) (new : Op) (ns : List NamedPut) → is_put a k ns ≡ false → replaced (place a k) new (map put_of ns) ≡ None
none_replaced a k new [] h = refl
none_replaced a k new (n ∷ ns) h =
    let both = neither (same_area a n.0 && same_key k n.1) (is_put a k ns) h in
    let here : puts (place a k) (put_of n) ≡ false = place_tie a n.0 k n.1 ∙ both.0 in
    let further : replaced (place a k) new (map put_of ns) ≡ None = none_replaced a k new ns both.1 in
    λ i. or_here new (put_of n) (map put_of ns) (here i && not (list_any (takes_away (place a k)) (map put_of ns))) (further i)

joined_onto-new : (done ns : List NamedPut) → are_new done ns ≡ true → joined_onto (map put_of done) (map put_of ns) ≡ map put_of (done ++ ns)
joined_onto-new done [] h = ap (map put_of) (sym (append-nil done))
joined_onto-new done (n ∷ ns) h =
    let both = and_parts (not (is_put n.0 n.1 done)) (are_new (done ++ n ∷ []) ns) h in
    let last : joined_with (map put_of done) (put_of n) ≡ map put_of (done ++ n ∷ []) =
    ap (or_last (put_of n) (map put_of done)) (none_replaced n.0 n.1 (put_of n) done (not-true _ both.0)) ∙ sym (map-append put_of done (n ∷ [])) in
    ap (λ l. joined_onto l (map put_of ns)) last ∙ joined_onto-new (done ++ n ∷ []) ns both.1 ∙ ap (map put_of) (append_assoc done (n ∷ []) ns)

pub joined-new : (ns : List NamedPut) → are_new [] ns ≡ true → joined (map put_of ns) ≡ map put_of ns
unfolding joined
joined-new ns h = joined_onto-new [] ns h
