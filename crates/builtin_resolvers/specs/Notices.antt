-- The notices of a verdict, as contracts see them.
use Rattle.std.specs.Prelude.{List, []}
use Rattle.builtin_resolvers.specs.declared.notice.Held.{Held}
use Rattle.builtin_resolvers.specs.declared.notice.Held.TheVariants.{Nothing, One, Two}
use Rattle.builtin_resolvers.specs.declared.notice.Notice.{Notice}

-- the notices, in their order
abbrev pub held_notices : Held → List Notice
held_notices Nothing = []
held_notices (One notices) = notices
held_notices (Two notices) = notices
