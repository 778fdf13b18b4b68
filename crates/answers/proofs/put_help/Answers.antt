use Rattle.answers.specs.Help.{help_text}
use Rattle.answers.proofs.put_help.Goals as goal

pub returns : goal.returns
unfolding help_text
returns c = c.put_text.ensures
