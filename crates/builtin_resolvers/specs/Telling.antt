-- The notices of the built-in resolvers, by resolver and verdict.
use Rattle.std.specs.Prelude.{List, [], ◌∷◌}
use Rattle.clash_record.specs.Name.{Name}
use Rattle.clash_record.specs.declared.registrations.Owner.{Owner}
use Rattle.clash_record.specs.declared.registrations.Builtin.{Builtin}
use Rattle.clash_record.specs.declared.registrations.Builtin.TheVariants as by
use Rattle.builtin_resolvers.specs.declared.notice.Notice.{Notice}
use Rattle.builtin_resolvers.specs.declared.notice.Notice.TheVariants.{Exit, Conflict, ConflictWith}
use Rattle.builtin_resolvers.specs.declared.verdicts.Verdict3.{Verdict3}
use Rattle.builtin_resolvers.specs.declared.verdicts.Verdict3.TheVariants.{First, Second, Neither}

-- exit and notify address the owner that lost, and notify-all each owner, naming the other
abbrev pub notices_of : Builtin → Name → Owner → Owner → Verdict3 → List Notice
notices_of by.Exit name first second First = Exit second ∷ []
notices_of by.Exit name first second Second = Exit first ∷ []
notices_of by.Exit name first second Neither = []
notices_of by.Notify name first second First = Conflict name second ∷ []
notices_of by.Notify name first second Second = Conflict name first ∷ []
notices_of by.Notify name first second Neither = []
notices_of by.NotifyAll name first second First = []
notices_of by.NotifyAll name first second Second = []
notices_of by.NotifyAll name first second Neither =
    ConflictWith name first second ∷ ConflictWith name second first ∷ []
