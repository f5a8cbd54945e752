-- One log and one list of answers for a whole history.
use Rattle.law_names.proofs.Runs.{Monitors}
use Rattle.network_answers.proofs.Answering.{acknowledged, all_of_log, answer, answered, brings, brings_more, extends, is_log, order, refusals}
use Rattle.network_answers.proofs.Causes.{answers_caused}
use Rattle.network_answers.proofs.Fates.{answered_so, made_so, unmade_so}
use Rattle.network_answers.specs.Answers.{Answer}
use Rattle.network_answers.specs.History.{Adds, HaveAnswers}
use Rattle.quorum_network.proofs.Adding.{given}
use Rattle.quorum_network.proofs.Assembled.{assembly}
use Rattle.quorum_network.proofs.Going.{goes_on}
use Rattle.quorum_network.proofs.Names.{AllMay, Step, acknowledgements, leaderships, may_before, network, requests}
use Rattle.quorum_network.proofs.Whole.{Stands, facts, stands}
use Rattle.std.proofs.Common.{List, map, ℕ, ◌++◌}

module _ (ms : Monitors) where
  abbrev stood : (steps : List Step) → AllMay ms steps → Stands assembly ms (requests ms steps) (acknowledgements ms steps) (leaderships ms steps) (network ms steps)
  stood steps may = stands assembly ms (facts ms) steps may

  unfoldable log_of : (steps : List Step) → AllMay ms steps → List (List ℕ)
  log_of steps may = (stood steps may).w.log

  unfoldable answers_of : (steps : List Step) → AllMay ms steps → List Answer
  answers_of steps may = map answer (stood steps may).w.replied

  adds : (later earlier : List Step) (may : AllMay ms (later ++ earlier))
      → Adds ms earlier (later ++ earlier) (log_of earlier (may_before ms later earlier may)) (log_of (later ++ earlier) may) (answers_of earlier (may_before ms later earlier may)) (answers_of (later ++ earlier) may)
  unfolding log_of answers_of
  adds later earlier may =
      let all : List Step = later ++ earlier in
      let S = stood earlier (may_before ms later earlier may) in
      let T = stood all may in
      let G = goes_on assembly ms (facts ms) later earlier may in
      record {
        extends = extends ms (requests ms earlier) (requests ms all) (acknowledgements ms earlier) (acknowledgements ms all) (leaderships ms earlier) (leaderships ms all) (network ms earlier) (network ms all) S T G;
        writes = map given G.writes;
        acknowledged = acknowledged ms (requests ms earlier) (requests ms all) (acknowledgements ms earlier) (acknowledgements ms all) (leaderships ms earlier) (leaderships ms all) (network ms earlier) (network ms all) S T G;
        more = map answer G.replies;
        answered = answered ms (requests ms earlier) (requests ms all) (acknowledgements ms earlier) (acknowledgements ms all) (leaderships ms earlier) (leaderships ms all) (network ms earlier) (network ms all) S T G;
        sent = G.sent;
        wire = G.wire;
        brings = brings_more ms (requests ms earlier) (requests ms all) (acknowledgements ms earlier) (acknowledgements ms all) (leaderships ms earlier) (leaderships ms all) (network ms earlier) (network ms all) S T G;
        order = order ms (requests ms earlier) (requests ms all) (acknowledgements ms earlier) (acknowledgements ms all) (leaderships ms earlier) (leaderships ms all) (network ms earlier) (network ms all) S T G;
        refusals = refusals ms (requests ms earlier) (requests ms all) (acknowledgements ms earlier) (acknowledgements ms all) (leaderships ms earlier) (leaderships ms all) (network ms earlier) (network ms all) S T G;
        made = made_so ms (requests ms earlier) (requests ms all) (acknowledgements ms earlier) (acknowledgements ms all) (leaderships ms earlier) (leaderships ms all) (network ms earlier) (network ms all) S T G;
      }

  pub history : HaveAnswers ms
  unfolding log_of answers_of
  history = record {
    log = log_of;
    answers = answers_of;
    is_of = λ steps may. is_log ms (requests ms steps) (acknowledgements ms steps) (leaderships ms steps) (network ms steps) (stood steps may);
    of_log = λ steps may. all_of_log ms (requests ms steps) (acknowledgements ms steps) (leaderships ms steps) (network ms steps) (stood steps may);
    brings = λ steps may. brings ms (requests ms steps) (acknowledgements ms steps) (leaderships ms steps) (network ms steps) (stood steps may);
    unmade = λ steps may. unmade_so ms (requests ms steps) (acknowledgements ms steps) (leaderships ms steps) (network ms steps) (stood steps may);
    once = λ steps may. answered_so ms (requests ms steps) (acknowledgements ms steps) (leaderships ms steps) (network ms steps) (stood steps may);
    causes = λ steps may. answers_caused ms steps may;
    goes_on = adds;
  }
