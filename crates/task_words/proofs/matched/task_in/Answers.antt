use Rattle.std.proofs.Common.{codes, sym}
use Rattle.clap.specs.Words.{found_of, rows_of}
use Rattle.task_words.proofs.Reading.{given_as, is_met, met_as, none_met}
use Rattle.task_words.proofs.matched.task_in.Goals as goal

pub returns-in_default : goal.returns-in_default
returns-in_default c = λ t asks same. none_met t c.args.matches.now asks same (sym c.in_default.ensures.name)

pub returns-in-replay : goal.returns-in-replay
returns-in-replay c = λ t asks same.
    let rows = rows_of (found_of c.in-Some.found.now) in
    let it = met_as t (codes "replay") c.in-Some.name.now rows (is_met t c.args.matches.now c.in-Some.name.now rows asks same c.in-Some.ensures.name c.in-Some.ensures.rows) asks.has c.in-replay.is in
    sym it.is

pub returns-in-made : goal.returns-in-made
returns-in-made c = λ t asks same.
    let rows = rows_of (found_of c.in-Some.found.now) in
    let it = met_as t (codes "made") c.in-Some.name.now rows (is_met t c.args.matches.now c.in-Some.name.now rows asks same c.in-Some.ensures.name c.in-Some.ensures.rows) asks.has c.in-made.is in
    given_as t _ c.made_in.result it.is (c.made_in.ensures it.fields.0 it.fields.1 it.has it.texts)

pub returns-in-node : goal.returns-in-node
returns-in-node c = λ t asks same.
    let rows = rows_of (found_of c.in-Some.found.now) in
    let it = met_as t (codes "node") c.in-Some.name.now rows (is_met t c.args.matches.now c.in-Some.name.now rows asks same c.in-Some.ensures.name c.in-Some.ensures.rows) asks.has c.in-node.is in
    given_as t _ c.node_in.result it.is (c.node_in.ensures it.fields.0 it.fields.1 it.fields.2 it.fields.3 it.fields.4 it.fields.5 it.has it.texts)

pub returns-in-follow : goal.returns-in-follow
returns-in-follow c = λ t asks same.
    let rows = rows_of (found_of c.in-Some.found.now) in
    let it = met_as t (codes "follow") c.in-Some.name.now rows (is_met t c.args.matches.now c.in-Some.name.now rows asks same c.in-Some.ensures.name c.in-Some.ensures.rows) asks.has c.in-follow.is in
    given_as t _ c.follow_in.result it.is (c.follow_in.ensures it.fields.0 it.fields.1 it.fields.2 it.has it.texts)

pub returns-in-scrub : goal.returns-in-scrub
returns-in-scrub c = λ t asks same.
    let rows = rows_of (found_of c.in-Some.found.now) in
    let it = met_as t (codes "scrub") c.in-Some.name.now rows (is_met t c.args.matches.now c.in-Some.name.now rows asks same c.in-Some.ensures.name c.in-Some.ensures.rows) asks.has c.in-scrub.is in
    given_as t _ c.store_in.result it.is (c.store_in.ensures it.fields.0 it.fields.1 it.fields.2 it.texts)

pub returns-in-text : goal.returns-in-text
returns-in-text c = λ t asks same.
    let rows = rows_of (found_of c.in-Some.found.now) in
    let it = met_as t (codes "scrub-compare") c.in-Some.name.now rows (is_met t c.args.matches.now c.in-Some.name.now rows asks same c.in-Some.ensures.name c.in-Some.ensures.rows) asks.has c.in-text.is in
    sym it.is

pub returns-in-text-2 : goal.returns-in-text-2
returns-in-text-2 c = λ t asks same.
    let rows = rows_of (found_of c.in-Some.found.now) in
    let it = met_as t (codes "dump-keys") c.in-Some.name.now rows (is_met t c.args.matches.now c.in-Some.name.now rows asks same c.in-Some.ensures.name c.in-Some.ensures.rows) asks.has c.in-text-2.is in
    given_as t _ c.store_in-in-text-2.result it.is (c.store_in-in-text-2.ensures it.fields.0 it.fields.1 it.fields.2 it.texts)

pub returns-in-text-3 : goal.returns-in-text-3
returns-in-text-3 c = λ t asks same.
    let rows = rows_of (found_of c.in-Some.found.now) in
    let it = met_as t (codes "dump-paxos") c.in-Some.name.now rows (is_met t c.args.matches.now c.in-Some.name.now rows asks same c.in-Some.ensures.name c.in-Some.ensures.rows) asks.has c.in-text-3.is in
    given_as t _ c.dump_paxos_in.result it.is (c.dump_paxos_in.ensures it.fields.0 it.fields.1 it.fields.2 it.fields.3 it.fields.4 it.has it.texts)

pub returns-in-text-4 : goal.returns-in-text-4
returns-in-text-4 c = λ t asks same.
    let rows = rows_of (found_of c.in-Some.found.now) in
    let it = met_as t (codes "store-export") c.in-Some.name.now rows (is_met t c.args.matches.now c.in-Some.name.now rows asks same c.in-Some.ensures.name c.in-Some.ensures.rows) asks.has c.in-text-4.is in
    given_as t _ c.store_in-in-text-4.result it.is (c.store_in-in-text-4.ensures it.fields.0 it.fields.1 it.fields.2 it.texts)

pub returns-in-text-5 : goal.returns-in-text-5
returns-in-text-5 c = λ t asks same.
    let rows = rows_of (found_of c.in-Some.found.now) in
    let it = met_as t (codes "store-import") c.in-Some.name.now rows (is_met t c.args.matches.now c.in-Some.name.now rows asks same c.in-Some.ensures.name c.in-Some.ensures.rows) asks.has c.in-text-5.is in
    given_as t _ c.store_in-in-text-5.result it.is (c.store_in-in-text-5.ensures it.fields.0 it.fields.1 it.fields.2 it.texts)
