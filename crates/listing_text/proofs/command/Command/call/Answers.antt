-- Each arm asks for what the command of its name does with those arguments.
use Rattle.std.proofs.Common.{rules}
use Rattle.model.specs.Lists.{same}
use Rattle.model.specs.Digits.{bytes}
use Rattle.model.specs.Rules.{add, replace, delete, start, pass, begin, end, step, clock, on, off, hand_back}
use Rattle.model.specs.Calls.{on_state}
use Rattle.listing_text.specs.Call.{call, lookup, commands, asked}
use Rattle.listing_text.specs.Machine.{entry}
use Rattle.listing_text.proofs.command.Command.call.Goals as goal

pub returns-in-SetUp : goal.returns-in-SetUp
unfolding bytes same commands lookup entry asked
returns-in-SetUp c = rw c.in-SetUp.is c.set_up.ensures

pub returns-in_err-lane-in-Add : goal.returns-in_err-lane-in-Add
unfolding bytes same commands lookup entry asked
returns-in_err-lane-in-Add c = rw c.in-Add.is (search (rules, c.lane_and_product.ensures (λ i c d m. call (on_state (add i c d m)))))

pub returns-in_ok-lane-in-Add : goal.returns-in_ok-lane-in-Add
unfolding bytes same commands lookup entry asked
returns-in_ok-lane-in-Add c = rw c.in-Add.is (search (rules, c.lane_and_product.ensures (λ i c d m. call (on_state (add i c d m)))))

pub returns-in_err-lane-in-Replace : goal.returns-in_err-lane-in-Replace
unfolding bytes same commands lookup entry asked
returns-in_err-lane-in-Replace c = rw c.in-Replace.is (search (rules, c.lane_and_product-in-Replace.ensures (λ i c d m. call (on_state (replace i c d m)))))

pub returns-in_ok-lane-in-Replace : goal.returns-in_ok-lane-in-Replace
unfolding bytes same commands lookup entry asked
returns-in_ok-lane-in-Replace c = rw c.in-Replace.is (search (rules, c.lane_and_product-in-Replace.ensures (λ i c d m. call (on_state (replace i c d m)))))

pub returns-in_err-lane-in-Delete : goal.returns-in_err-lane-in-Delete
unfolding bytes same commands lookup entry asked
returns-in_err-lane-in-Delete c = rw c.in-Delete.is (search (rules, c.lane_and_code.ensures (λ i c. call (on_state (delete i c)))))

pub returns-in_ok-lane-in-Delete : goal.returns-in_ok-lane-in-Delete
unfolding bytes same commands lookup entry asked
returns-in_ok-lane-in-Delete c = rw c.in-Delete.is (search (rules, c.lane_and_code.ensures (λ i c. call (on_state (delete i c)))))

pub returns-in_err-lane-in-Begin : goal.returns-in_err-lane-in-Begin
unfolding bytes same commands lookup entry asked
returns-in_err-lane-in-Begin c = rw c.in-Begin.is (search (rules, c.lane.ensures (λ i. call (on_state (begin i)))))

pub returns-in_ok-lane-in-Begin : goal.returns-in_ok-lane-in-Begin
unfolding bytes same commands lookup entry asked
returns-in_ok-lane-in-Begin c = rw c.in-Begin.is (search (rules, c.lane.ensures (λ i. call (on_state (begin i)))))

pub returns-in_err-lane-in-End : goal.returns-in_err-lane-in-End
unfolding bytes same commands lookup entry asked
returns-in_err-lane-in-End c = rw c.in-End.is (search (rules, c.lane-in-End.ensures (λ i. call (on_state (end i)))))

pub returns-in_ok-lane-in-End : goal.returns-in_ok-lane-in-End
unfolding bytes same commands lookup entry asked
returns-in_ok-lane-in-End c = rw c.in-End.is (search (rules, c.lane-in-End.ensures (λ i. call (on_state (end i)))))

pub returns-in_err-lane-in-Start : goal.returns-in_err-lane-in-Start
unfolding bytes same commands lookup entry asked
returns-in_err-lane-in-Start c = rw c.in-Start.is (search (rules, c.lane_and_code-in-Start.ensures (λ i c. call (on_state (start i c)))))

pub returns-in_ok-lane-in-Start : goal.returns-in_ok-lane-in-Start
unfolding bytes same commands lookup entry asked
returns-in_ok-lane-in-Start c = rw c.in-Start.is (search (rules, c.lane_and_code-in-Start.ensures (λ i c. call (on_state (start i c)))))

pub returns-in_err-lane-in-Step : goal.returns-in_err-lane-in-Step
unfolding bytes same commands lookup entry asked
returns-in_err-lane-in-Step c = rw c.in-Step.is (search (rules, c.lane-in-Step.ensures (λ i. call (on_state (step i)))))

pub returns-in_ok-lane-in-Step : goal.returns-in_ok-lane-in-Step
unfolding bytes same commands lookup entry asked
returns-in_ok-lane-in-Step c = rw c.in-Step.is (search (rules, c.lane-in-Step.ensures (λ i. call (on_state (step i)))))

pub returns-in_err-lane-in-Pass : goal.returns-in_err-lane-in-Pass
unfolding bytes same commands lookup entry asked
returns-in_err-lane-in-Pass c = rw c.in-Pass.is (search (rules, c.lane_and_kind.ensures (λ i k. call (on_state (pass i k)))))

pub returns-in_ok-lane-in-Pass : goal.returns-in_ok-lane-in-Pass
unfolding bytes same commands lookup entry asked
returns-in_ok-lane-in-Pass c = rw c.in-Pass.is (search (rules, c.lane_and_kind.ensures (λ i k. call (on_state (pass i k)))))

pub returns-in_err-lane-in-Clock : goal.returns-in_err-lane-in-Clock
unfolding bytes same commands lookup entry asked
returns-in_err-lane-in-Clock c = rw c.in-Clock.is (search (rules, c.lane-in-Clock.ensures (λ i. call (on_state (clock i)))))

pub returns-in_ok-lane-in-Clock : goal.returns-in_ok-lane-in-Clock
unfolding bytes same commands lookup entry asked
returns-in_ok-lane-in-Clock c = rw c.in-Clock.is (search (rules, c.lane-in-Clock.ensures (λ i. call (on_state (clock i)))))

pub returns-in_err-lane-in-On : goal.returns-in_err-lane-in-On
unfolding bytes same commands lookup entry asked
returns-in_err-lane-in-On c = rw c.in-On.is (search (rules, c.lane-in-On.ensures (λ i. call (on_state (on i)))))

pub returns-in_ok-lane-in-On : goal.returns-in_ok-lane-in-On
unfolding bytes same commands lookup entry asked
returns-in_ok-lane-in-On c = rw c.in-On.is (search (rules, c.lane-in-On.ensures (λ i. call (on_state (on i)))))

pub returns-in_err-lane-in-Off : goal.returns-in_err-lane-in-Off
unfolding bytes same commands lookup entry asked
returns-in_err-lane-in-Off c = rw c.in-Off.is (search (rules, c.lane-in-Off.ensures (λ i. call (on_state (off i)))))

pub returns-in_ok-lane-in-Off : goal.returns-in_ok-lane-in-Off
unfolding bytes same commands lookup entry asked
returns-in_ok-lane-in-Off c = rw c.in-Off.is (search (rules, c.lane-in-Off.ensures (λ i. call (on_state (off i)))))

pub returns-in_err-lane-in-HandBack : goal.returns-in_err-lane-in-HandBack
unfolding bytes same commands lookup entry asked
returns-in_err-lane-in-HandBack c = rw c.in-HandBack.is (search (rules, c.lane-in-HandBack.ensures (λ i. call (on_state (hand_back i)))))

pub returns-in_ok-lane-in-HandBack : goal.returns-in_ok-lane-in-HandBack
unfolding bytes same commands lookup entry asked
returns-in_ok-lane-in-HandBack c = rw c.in-HandBack.is (search (rules, c.lane-in-HandBack.ensures (λ i. call (on_state (hand_back i)))))

pub returns-in-Awaited : goal.returns-in-Awaited
unfolding bytes same commands lookup entry asked
returns-in-Awaited c = rw c.in-Awaited.is c.alone.ensures
