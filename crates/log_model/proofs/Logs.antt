-- What is read of a log's first versions stays when it grows.
use Rattle.std.proofs.Common.{◌≡◌, ℕ, zero, suc, ◌<◌, ◌≤◌, List, [], ◌∷◌, ◌++◌, length, get_or, refl, arith}
use Rattle.std.proofs.lemmas.List.{get_or_append_left}
use Rattle.std.proofs.Math.Seq.{get_or-append_seam}
use Rattle.mon_tx.specs.declared.key.Area.TheVariants as area
use Rattle.mon_tx.specs.declared.key.Key.TheVariants as key
use Rattle.mon_tx.specs.Map.{apply}
use Rattle.mon_tx.specs.Decode.{ops_in}
use Rattle.mon_wire.specs.declared.request.Service.{Service}
use Rattle.mon_msg.specs.Puts.{put}
use Rattle.mon_msg.specs.Fold.{entry, fold, put_in, incrementals}
use Rattle.log_model.proofs.Lists.{length_push}

-- the second log begins with the first
pub record IsPrefixOf (log more : List (List ℕ)) : Type 0 where
  pub short : length log ≤ length more
  pub same : (i : ℕ) → i < length log → get_or more i [] ≡ get_or log i []

pub log_prefix_itself : (log : List (List ℕ)) → IsPrefixOf log log
log_prefix_itself log = record { short = omega arith; same = λ i h. refl }

pub log_prefix_push : (log : List (List ℕ)) (x : List ℕ) → IsPrefixOf log (log ++ x ∷ [])
log_prefix_push log x = record { short = omega (arith, length_push log x); same = λ i h. get_or_append_left log (x ∷ []) [] i h }

pub entry_push : (log : List (List ℕ)) (x : List ℕ) → entry (log ++ x ∷ []) (suc (length log)) ≡ x
entry_push log x = get_or-append_seam log x [] []

module _ {log more : List (List ℕ)} (log_prefix : IsPrefixOf log more) where
  pub entry_stays : (v : ℕ) → v ≤ length log → entry more v ≡ entry log v
  entry_stays zero h = refl
  entry_stays (suc i) h = log_prefix.same i (omega arith)

  pub fold_stays : (c : ℕ) → c ≤ length log → fold more c ≡ fold log c
  unfolding fold
  fold_stays zero h = refl
  fold_stays (suc c) h = λ i. apply (put area.Paxos (key.Version (suc c)) (entry_stays (suc c) h i) ∷ ops_in (entry_stays (suc c) h i)) (fold_stays c (omega arith) i)

  pub incrementals_stay : (s : Service) (c : ℕ) → c ≤ length log → incrementals s more c ≡ incrementals s log c
  unfolding incrementals
  incrementals_stay s zero h = refl
  incrementals_stay s (suc c) h = λ i. incrementals_stay s c (omega arith) i ++ put_in s (ops_in (entry_stays (suc c) h i))
