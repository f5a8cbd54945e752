use Rattle.law_names.proofs.Table.{Contains}
use Rattle.quorum_network.proofs.Ends.{cut_sends}
use Rattle.quorum_network.proofs.Lives.{last_is, lives_alone, process_alone, sends_alone}
use Rattle.quorum_network.proofs.Names.{map_of}
use Rattle.quorum_network.proofs.Tied.{ends_says, ends_so, goes_saying, killed, killed_says, within_opens}
use Rattle.quorum_network.proofs.laws.law_lives.Goals as goal
use Rattle.std.proofs.Common.{List, None, [], ap, subst, sym, ℕ, ◌∙◌}

pub returns : goal.returns
returns c = record {
  process = process_alone;
  lives = lives_alone;
  sends = sends_alone;
  begins = λ ms i me is steps number store_view clock link first kv small new.
      (kv ∙ sym (ap map_of (process_alone ms i me is steps)), (small, subst (λ (lives : List ℕ). ¬ Contains lives number) (sym (lives_alone ms i me is steps)) new));
  last = λ i me number store_view clock link first earlier given u t e. (last_is i me number store_view clock link first earlier given u t e).process;
  cut = cut_sends;
  ends = λ i me number store_view clock link first given earlier turns begun e left_clock left_link x y S left member s opens.
      ends_so i me number store_view clock link first given earlier left_link x y member s opens turns begun e left_clock S left;
  killed = λ i me number store_view clock link first given earlier t left_link x y is on member s opens.
      killed i me number store_view clock link first given earlier left_link x y member s opens t is on;
  goes_saying = λ i me number store_view clock link first given earlier t now sends is ends all.
      goes_saying i me number store_view clock link first given earlier None [] [] t now sends is ends all;
  ends_saying = λ i me number store_view clock link first given earlier turns begun e left_clock left_link x y serves S left member s opens.
      ends_says i me number store_view clock link first given earlier left_link x y member s opens turns begun e left_clock serves S left;
  killed_saying = λ i me number store_view clock link first given earlier t last others x y is all front left member s opens.
      killed_says i me number store_view clock link first given earlier None x y member s opens t last others is all front left;
  within = within_opens;
}
