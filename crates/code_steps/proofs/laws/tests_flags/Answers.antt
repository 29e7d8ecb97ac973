use Rattle.code_steps.proofs.JumpLaws.{tests_clear_intcon, tests_set_intcon, tests_clear_common, tests_set_common, tests_clear_pir1, tests_set_pir1, tests_clear_pir2, tests_set_pir2}
use Rattle.code_steps.proofs.laws.tests_flags.Goals as goal

pub returns : goal.returns
returns c = λ x. record {
  intcon = λ b. (tests_clear_intcon b x, tests_set_intcon b x);
  common = λ f from below b. (tests_clear_common f b x from, tests_set_common f b x from);
  pir1 = λ holds b. (tests_clear_pir1 b x holds, tests_set_pir1 b x holds);
  pir2 = λ holds b. (tests_clear_pir2 b x holds, tests_set_pir2 b x holds);
}
