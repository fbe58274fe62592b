use Rattle.std.proofs.Common.{◌∙◌, ap}
use Rattle.clap.specs.Words.{found_of}
use Rattle.clap.proofs.WalkLemmas.{first_value-rows}
use Rattle.sirob.specs.CommandLine.{is_true}
use Rattle.sirob.proofs.command_line.has_flag.Goals as goal

pub returns : goal.returns
returns c = c.is_true.ensures ∙ ap is_true (c.get_str.ensures ∙ first_value-rows (found_of c.args.matches.now) c.args.name.now)
