use Rattle.std.proofs.Common.{◌≡◌, ◌≢◌, ◌∙◌, true, false, length, sym, arith, rules}
use Rattle.election_rules.specs.Table.{is_older, row_of}
use Rattle.election_rules.proofs.MergeLemmas.{merged-own, merged-taken, merged-kept, stays, taken, whole}
use Rattle.election_rules.proofs.scores.Scores.merge.Goals.{then-y-own+then-is_older, else-y-own, else-y-own-via-then-y-own+else-is_older, else-y-own-via-else-y-own}
use Rattle.election_rules.proofs.scores.Scores.merge.Goals as goal

pub loop-y-preserved : goal.loop-y-preserved
loop-y-preserved c =
    let start = c.args.self.now in
    let told = c.args.other.now in
    let y = c.loop-y.y in
    let m = c.loop-y.invariant in
    let here : row_of c.loop-y.self y ≡ row_of start y = m.left y (omega arith) in
    let p : length start.rows ≡ 15 = search rules in
    let q : length told.rows ≡ 15 = search rules in
    let own : c.from-own.result ≡ start.own = cc in
    elim c.if-y-own.branch [
      | then-y-own+then-is_older w ↦
          let other : y ≢ start.own = omega arith in
          let older : is_older (row_of start y) (row_of told y) ≡ true = rw (← here) (sym w.is_older.ensures ∙ w.if-is_older.true) in
          rw w.self-is (taken y start told c.loop-y.self (row_of told y) m c.loop-y-test.true (merged-taken start told y p q c.loop-y-test.true other older))
      | else-y-own w ↦
          elim w.else-y-own.branch [
            | else-y-own-via-then-y-own+else-is_older w' ↦
                let other : y ≢ start.own = omega arith in
                let older : is_older (row_of start y) (row_of told y) ≡ false = rw (← here) (sym w'.is_older.ensures ∙ w'.if-is_older.false) in
                rw w.self-is (stays y start told c.loop-y.self m (merged-kept start told y p q c.loop-y-test.true other older))
            | else-y-own-via-else-y-own w' ↦
                let same : y ≡ start.own = omega arith in
                rw w.self-is (stays y start told c.loop-y.self m (rw same (merged-own start told p q (omega arith))))
          ]
    ]

pub returns : goal.returns
returns c =
    let start = c.args.self.now in
    let told = c.args.other.now in
    let p : length start.rows ≡ 15 = search rules in
    let q : length told.rows ≡ 15 = search rules in
    let last : c.loop-y.y ≡ 15 = omega arith in
    whole start told c.loop-y.self p q (rw last at c.loop-y.invariant)
