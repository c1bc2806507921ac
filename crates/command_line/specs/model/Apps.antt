-- The description of heal's command line for clap.
use Rattle.std.specs.Prelude.{◌≡◌, false}
use Rattle.clap.specs.declared.builder.command.Command.{Command}
use Rattle.clap.specs.declared.builder.command.Command.TheViews.{out-Command}
use Rattle.clap.specs.Words.{App, app_of}

-- the command has this shape, and no global argument
abbrev pub IsApp : Command → App → Type 0
IsApp c app = (app_of c ≡ app) × ((out-Command c).has_globals ≡ false)
