-- Kinds of replies: one that shows something refuses and acknowledges nothing.
use Rattle.law_names.proofs.Runs.{done_in}
use Rattle.law_names.proofs.Table.{Readings, Reply, Service, changes_after, kept_from, service_first, service_last, shown, since}
use Rattle.mon_wire.specs.declared.reply.Reply.TheVariants as reply
use Rattle.quorum_agreement.proofs.Acknowledging.{NoShow}
use Rattle.quorum_answers.specs.Reads.{Shows}
use Rattle.quorum_answers.specs.Refused.{IsRefusalReply}
use Rattle.std.proofs.Common.{None, leb, map, refl, suc, ℕ, ◌-◌, ◌≡◌}
use Rattle.std.proofs.lemmas.Bool.{cond_both}

pub shows_not : (y : Reply) → NoShow y → Shows y → ⊥
shows_not (reply.Shown s paxos version map) k t = k
shows_not (reply.Since s from told more) k t = k
shows_not other k t = t

pub shows_no_refusal : (y : Reply) → Shows y → IsRefusalReply y → ⊥
shows_no_refusal (reply.Shown s paxos version map) k t = t
shows_no_refusal (reply.Since s from told more) k t = t
shows_no_refusal other k t = absurd k

pub shows_nothing_done : (y : Reply) → Shows y → done_in y ≡ None
shows_nothing_done (reply.Done v) k = absurd k
shows_nothing_done other k = refl

-- what is listed, or shown in its place
pub since_shows : (w : Readings) (v : Service) (k : ℕ) → Shows (since w v k)
unfolding since
since_shows w v k = cond_both (leb (service_first w v) (suc k)) (changes_after w v k (kept_from w v (service_last w v - k) (suc k))) (shown w v) Shows (λ t. tt) (λ t. tt)
