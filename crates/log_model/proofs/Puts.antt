-- A value puts one incremental of its own service, and none of another.
use Rattle.std.proofs.Common.{◌≡◌, ℕ, ◌-◌, Bool, true, false, ◌&&◌, cond, eqb, leb, List, [], ◌∷◌, ◌++◌, map, refl, ap, ◌∙◌}
use Rattle.std.proofs.lemmas.Bool.{cond_both}
use Rattle.std.specs.Str.{bytes_eq}
use Rattle.mon_tx.specs.declared.key.Area.{Area}
use Rattle.mon_tx.specs.declared.key.Area.TheVariants as area
use Rattle.mon_tx.specs.declared.key.Key.{Key}
use Rattle.mon_tx.specs.declared.key.Key.TheVariants.{FirstCommitted, LastCommitted, LastPn, AcceptedPn, PendingV, PendingPn, FullLatest, ElectionEpoch, BootCount, InSync, Floor, Version, Full}
use Rattle.mon_tx.specs.declared.op.Op.{Op}
use Rattle.mon_tx.specs.declared.op.Op.TheVariants.{Put, Erase, ErasePrefix, EraseRange}
use Rattle.mon_tx.specs.Keys.{area_text, key_text, same_area}
use Rattle.mon_tx.specs.Map.{is_decimal, number_bytes}
use Rattle.mon_tx.proofs.Named.{area_is}
use Rattle.mon_tx.proofs.Ranges.{decimal_is_decimal}
use Rattle.mon_wire.specs.declared.request.Service.{Service}
use Rattle.mon_wire.specs.declared.request.Service.TheVariants.{Kv, Log}
use Rattle.mon_msg.specs.Puts.{put}
use Rattle.mon_msg.specs.Fold.{put_in}
use Rattle.mon_msg.specs.Puts.{area_of}
use Rattle.mon_msg.specs.Protocol.Rules.{full_between, service_to, value_ops}
use Rattle.log_model.specs.Windows.{is_full}
use Rattle.log_model.proofs.AreaEdits.{Edit, Set, Drop, DropRange, encoded}
use Rattle.log_model.proofs.RuleEdits.{first_set, begun, new, full, trimmed, cut, log_trimmed, service_edits, value_is}

-- the values of the edits that set a version
abbrev versions : List Edit → List (List ℕ)
versions [] = []
versions (Set (Version v) x ∷ es) = x ∷ versions es
versions (e ∷ es) = versions es

versions_append : (a b : List Edit) → versions (a ++ b) ≡ versions a ++ versions b
versions_append [] b = refl
versions_append (Set (Version v) x ∷ es) b = ap (λ (z : List (List ℕ)). x ∷ z) (versions_append es b)
versions_append (Set FirstCommitted x ∷ es) b = versions_append es b
versions_append (Set LastCommitted x ∷ es) b = versions_append es b
versions_append (Set LastPn x ∷ es) b = versions_append es b
versions_append (Set AcceptedPn x ∷ es) b = versions_append es b
versions_append (Set PendingV x ∷ es) b = versions_append es b
versions_append (Set PendingPn x ∷ es) b = versions_append es b
versions_append (Set FullLatest x ∷ es) b = versions_append es b
versions_append (Set ElectionEpoch x ∷ es) b = versions_append es b
versions_append (Set BootCount x ∷ es) b = versions_append es b
versions_append (Set InSync x ∷ es) b = versions_append es b
versions_append (Set Floor x ∷ es) b = versions_append es b
versions_append (Set (Full v) x ∷ es) b = versions_append es b
versions_append (Drop k ∷ es) b = versions_append es b
versions_append (DropRange from to ∷ es) b = versions_append es b

-- ---- what edits put

both : (b : Bool) (x : List ℕ) (xs : List (List ℕ)) → cond (b && true) (x ∷ xs) xs ≡ cond b (x ∷ xs) xs
both true x xs = refl
both false x xs = refl

neither : (b : Bool) (x : List ℕ) (xs : List (List ℕ)) → cond (b && false) (x ∷ xs) xs ≡ xs
neither true x xs = refl
neither false x xs = refl

put_version : (s : Service) (a : Area) (v : ℕ) (x : List ℕ) (ops : List Op) → put_in s (put a (Version v) x ∷ ops) ≡ cond (same_area a (area_of s)) (x ∷ put_in s ops) (put_in s ops)
put_version s a v x ops =
    (λ i. cond (area_is a (area_of s) i && decimal_is_decimal v i) (x ∷ put_in s ops) (put_in s ops)) ∙ both (same_area a (area_of s)) x (put_in s ops)

put_other : (s : Service) (a : Area) (k : Key) (x : List ℕ) (ops : List Op) → is_decimal (key_text k) ≡ false → put_in s (put a k x ∷ ops) ≡ put_in s ops
put_other s a k x ops h = ap (λ t. cond (bytes_eq (area_text a) (area_text (area_of s)) && t) (x ∷ put_in s ops) (put_in s ops)) h ∙ neither (bytes_eq (area_text a) (area_text (area_of s))) x (put_in s ops)

put_elsewhere : (s : Service) (a : Area) (k : Key) (x : List ℕ) (ops : List Op) → same_area a (area_of s) ≡ false → put_in s (put a k x ∷ ops) ≡ put_in s ops
put_elsewhere s a k x ops h = ap (λ t. cond (t && is_decimal (key_text k)) (x ∷ put_in s ops) (put_in s ops)) (area_is a (area_of s) ∙ h)

puts_own : (s : Service) (a : Area) (es : List Edit) → same_area a (area_of s) ≡ true → put_in s (encoded a es) ≡ versions es
puts_own s a [] h = refl
puts_own s a (Set (Version v) x ∷ es) h = put_version s a v x (encoded a es) ∙ rw h (ap (λ (z : List (List ℕ)). x ∷ z) (puts_own s a es h))
puts_own s a (Set FirstCommitted x ∷ es) h = put_other s a FirstCommitted x (encoded a es) refl ∙ puts_own s a es h
puts_own s a (Set LastCommitted x ∷ es) h = put_other s a LastCommitted x (encoded a es) refl ∙ puts_own s a es h
puts_own s a (Set LastPn x ∷ es) h = put_other s a LastPn x (encoded a es) refl ∙ puts_own s a es h
puts_own s a (Set AcceptedPn x ∷ es) h = put_other s a AcceptedPn x (encoded a es) refl ∙ puts_own s a es h
puts_own s a (Set PendingV x ∷ es) h = put_other s a PendingV x (encoded a es) refl ∙ puts_own s a es h
puts_own s a (Set PendingPn x ∷ es) h = put_other s a PendingPn x (encoded a es) refl ∙ puts_own s a es h
puts_own s a (Set FullLatest x ∷ es) h = put_other s a FullLatest x (encoded a es) refl ∙ puts_own s a es h
puts_own s a (Set ElectionEpoch x ∷ es) h = put_other s a ElectionEpoch x (encoded a es) refl ∙ puts_own s a es h
puts_own s a (Set BootCount x ∷ es) h = put_other s a BootCount x (encoded a es) refl ∙ puts_own s a es h
puts_own s a (Set InSync x ∷ es) h = put_other s a InSync x (encoded a es) refl ∙ puts_own s a es h
puts_own s a (Set Floor x ∷ es) h = put_other s a Floor x (encoded a es) refl ∙ puts_own s a es h
puts_own s a (Set (Full v) x ∷ es) h = put_other s a (Full v) x (encoded a es) refl ∙ puts_own s a es h
puts_own s a (Drop k ∷ es) h = puts_own s a es h
puts_own s a (DropRange from to ∷ es) h = puts_own s a es h

puts_none : (s : Service) (a : Area) (es : List Edit) → same_area a (area_of s) ≡ false → put_in s (encoded a es) ≡ []
puts_none s a [] h = refl
puts_none s a (Set k x ∷ es) h = put_elsewhere s a k x (encoded a es) h ∙ puts_none s a es h
puts_none s a (Drop k ∷ es) h = puts_none s a es h
puts_none s a (DropRange from to ∷ es) h = puts_none s a es h

put_in-append : (s : Service) (a b : List Op) → put_in s (a ++ b) ≡ put_in s a ++ put_in s b
put_in-append s [] b = refl
put_in-append s (Put p k x ∷ ops) b =
    cond_both (bytes_eq p (area_text (area_of s)) && is_decimal k) (x ∷ put_in s ops) (put_in s ops) (λ z. put_in s (Put p k x ∷ (ops ++ b)) ≡ z ++ put_in s b)
    (λ e. rw e (ap (λ (z : List (List ℕ)). x ∷ z) (put_in-append s ops b))) (λ e. rw e (put_in-append s ops b))
put_in-append s (Erase p k ∷ ops) b = put_in-append s ops b
put_in-append s (ErasePrefix p ∷ ops) b = put_in-append s ops b
put_in-append s (EraseRange p from to ∷ ops) b = put_in-append s ops b

-- ---- what the rules put

log_apart : (u : Service) → same_area area.Paxos (area_of u) ≡ false
log_apart Kv = refl
log_apart Log = refl

versions_drops : (vs : List ℕ) (es : List Edit) → versions (map (λ v. Drop (Full v)) vs ++ es) ≡ versions es
versions_drops [] es = refl
versions_drops (v ∷ vs) es = versions_drops vs es

versions_trimmed : (n first : ℕ) → versions (trimmed n first) ≡ []
versions_trimmed n first =
    cond_both (leb 75 (n - first)) (cut first (service_to n first)) [] (λ es. versions es ≡ []) (λ e. versions_drops (full_between first (service_to n first)) (first_set (service_to n first))) (λ e. refl)

versions_full : (n : ℕ) (t : List ℕ) → versions (full n t) ≡ []
versions_full n t = cond_both (is_full n) _ [] (λ es. versions es ≡ []) (λ e. refl) (λ e. refl)

versions_new : (n : ℕ) (x : List ℕ) → versions (new n x) ≡ x ∷ []
versions_new n x =
    ap (λ (z : List (List ℕ)). x ∷ z) (cond_both (eqb n 1) (first_set 1) [] (λ es. versions (es ++ Set LastCommitted (number_bytes n) ∷ []) ≡ []) (λ e. refl) (λ e. refl))

versions_value : (n first : ℕ) (x t : List ℕ) → versions (service_edits n first x t) ≡ x ∷ []
versions_value n first x t =
    versions_append (new n x) (full n t ++ trimmed n first) ∙ ap (λ z. z ++ versions (full n t ++ trimmed n first)) (versions_new n x)
    ∙ ap (λ (z : List (List ℕ)). x ∷ z) (versions_append (full n t) (trimmed n first) ∙ ap (λ z. z ++ versions (trimmed n first)) (versions_full n t) ∙ versions_trimmed n first)

pub puts_value : (u : Service) (a : Area) (first last n service_first : ℕ) (x t : List ℕ)
    → put_in u (value_ops first last a n service_first x t) ≡ cond (same_area a (area_of u)) (x ∷ []) []
puts_value u a first last n service_first x t =
    ap (put_in u) (value_is first last a n service_first x t)
    ∙ put_in-append u (encoded area.Paxos (begun last)) _ ∙ ap (λ z. z ++ put_in u (encoded a (service_edits n service_first x t) ++ encoded area.Paxos (log_trimmed first last))) (puts_none u area.Paxos (begun last) (log_apart u))
    ∙ put_in-append u (encoded a (service_edits n service_first x t)) _ ∙ ap (λ z. put_in u (encoded a (service_edits n service_first x t)) ++ z) (puts_none u area.Paxos (log_trimmed first last) (log_apart u))
    ∙ by (same_area a (area_of u)) refl
  where
    by : (b : Bool) → same_area a (area_of u) ≡ b → put_in u (encoded a (service_edits n service_first x t)) ++ [] ≡ cond b (x ∷ []) []
    by true h = ap (λ z. z ++ []) (puts_own u a (service_edits n service_first x t) h ∙ versions_value n service_first x t)
    by false h = ap (λ z. z ++ []) (puts_none u a (service_edits n service_first x t) h)
