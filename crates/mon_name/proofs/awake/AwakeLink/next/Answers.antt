use Rattle.std.proofs.Common.{rules, refl, sym, ◌∙◌, inr}
use Rattle.mon_link.specs.Histories.Happened.{Received}
use Rattle.mon_link.proofs.Layers.{grows_one}
use Rattle.mon_name.proofs.awake.AwakeLink.next.Goals as goal

pub returns-in_err-got-clause-does : goal.returns-in_err-got-clause-does
returns-in_err-got-clause-does g c =
    grows_one _ _ _ (Received c.args.wait c.next-gave.result) c.next-gave.ensures.goes_on
    (record {
      first = c.read_clock.new.self;
      reads = c.read_clock.ensures.reads;
      does = inr (
        sym c.read_clock.ensures.stood ∙ c.if-read_clock.false,
        record { gave = c.next-gave.result; are = refl; reads = c.read_clock-stood.ensures.reads; answer = search rules },
      );
    })

pub returns-clause-does : goal.returns-clause-does
returns-clause-does g c =
    grows_one _ _ _ (Received c.args.wait c.next-gave.result) c.next-gave.ensures.goes_on
    (record {
      first = c.read_clock.new.self;
      reads = c.read_clock.ensures.reads;
      does = inr (
        sym c.read_clock.ensures.stood ∙ c.if-read_clock.false,
        record { gave = c.next-gave.result; are = refl; reads = c.read_clock-stood.ensures.reads; answer = search rules },
      );
    })
