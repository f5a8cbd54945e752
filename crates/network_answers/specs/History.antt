-- What holds of a whole history of processes: one log and one list of answers.
use Rattle.std.specs.Prelude.{◌≡◌, ℕ, List, ◌++◌}
use Rattle.std.specs.List.{AllByRecursion}
use Rattle.network_answers.specs.Answers.{Answer, AreInOrder, IsAnswer, IsOfThisLog, IsRefused}
use Rattle.network_answers.specs.Causes.{IsCaused}
use Rattle.network_answers.specs.Fates.{AreAnsweredOnce, AreMadeOnce, AreUnmade}
use Rattle.quorum_answers.specs.Refused.{IsRefusalReply}
use Rattle.quorum_model.specs.Monitors.{Monitors}
use Rattle.quorum_model.specs.World.{Acknowledgement}
use Rattle.quorum_network.specs.History.{Extends}
use Rattle.quorum_network.specs.Network.{AllMay, Posted, Step, may_before, network}
use Rattle.quorum_network.specs.Promises.{AreAnswers, IsLogOf}
use Rattle.quorum_network.specs.Requests.{acknowledgements, requests}

-- What steps add to earlier ones: to the log, to what was acknowledged, to the answers, and to what was sent.
-- Datagrams that they send to clients are of the answers that they add.
pub record Adds (ms : Monitors) (earlier later : List Step) (old_log log : List (List ℕ)) (old answers : List Answer)
    : Type 0 where
  pub extends : Extends log old_log
  pub writes : List Acknowledgement
  pub acknowledged : acknowledgements ms later ≡ acknowledgements ms earlier ++ writes
  pub more : List Answer
  pub answered : answers ≡ old ++ more
  pub sent : List Posted
  pub wire : (network ms later).sent ≡ (network ms earlier).sent ++ sent
  pub brings : AreAnswers (IsAnswer ms.count more) sent
  pub order : AreInOrder (acknowledgements ms earlier) old writes more
  pub refusals : AllByRecursion
      (λ (a : Answer). IsRefusalReply a.reply
      → IsRefused (requests ms earlier) (requests ms later) (acknowledgements ms earlier) log a) answers
  pub made : AreMadeOnce ms.count (requests ms earlier) (requests ms later) old_log log

-- After each list of steps there are a log and a list of answers, and later steps only add to both. Each entry of the
-- log was asked, all maps and all answers are of it, and it keeps what was acknowledged. Every datagram that went to a
-- client is of one of these answers, and a client joins only such. Each request makes at most one version, and is
-- answered at most once. Each answer that doesn't serve a request has its cause in a step. The log and the answers of
-- earlier steps are those that the history has for them. So all logs of a history are prefixes of the last one.
pub record HaveAnswers (ms : Monitors) : Type 0 where
  pub log : (steps : List Step) → AllMay ms steps → List (List ℕ)
  pub answers : (steps : List Step) → AllMay ms steps → List Answer
  pub is_of : (steps : List Step) (may : AllMay ms steps)
      → IsLogOf ms (requests ms steps) (acknowledgements ms steps) (network ms steps) (log steps may)
  pub of_log : (steps : List Step) (may : AllMay ms steps) → AllByRecursion
      (IsOfThisLog (requests ms steps) (acknowledgements ms steps) (log steps may)) (answers steps may)
  pub brings : (steps : List Step) (may : AllMay ms steps)
      → AreAnswers (IsAnswer ms.count (answers steps may)) (network ms steps).sent
  pub unmade : (steps : List Step) (may : AllMay ms steps)
      → AreUnmade ms.count (requests ms steps) (log steps may) (answers steps may)
  pub once : (steps : List Step) (may : AllMay ms steps) → AreAnsweredOnce (requests ms steps) (answers steps may)
  pub causes : (steps : List Step) (may : AllMay ms steps) → AllByRecursion (IsCaused ms steps) (answers steps may)
  pub goes_on : (later earlier : List Step) (may : AllMay ms (later ++ earlier))
      → Adds ms earlier (later ++ earlier) (log earlier (may_before ms later earlier may)) (log (later ++ earlier) may)
      (answers earlier (may_before ms later earlier may)) (answers (later ++ earlier) may)
