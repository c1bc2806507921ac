-- The printed form of notices.
use Rattle.std.specs.Prelude.{ℕ, List, ◌++◌, codes}
use Rattle.clash_record.specs.Texts.{owner_text}
use Rattle.builtin_resolvers.specs.declared.notice.Notice.{Notice}
use Rattle.builtin_resolvers.specs.declared.notice.Notice.TheVariants.{Exit, Conflict, ConflictWith}

-- a notice, as `conflict web to 1.10`
abbrev pub notice_text : Notice → List ℕ
notice_text (Exit owner) = codes "exit " ++ owner_text owner
notice_text (Conflict name owner) = codes "conflict " ++ (name ++ (codes " to " ++ owner_text owner))
notice_text (ConflictWith name owner other) =
    codes "conflict " ++ (name ++ (codes " to " ++ (owner_text owner ++ (codes " other " ++ owner_text other))))
