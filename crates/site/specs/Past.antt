-- What happened, by what clauses see of it.
use Rattle.std.specs.Prelude.{[], Option, Some, None}
use Rattle.std.specs.declared.snapshot.Snapshot.{Snapshot}
use Rattle.site.specs.Story as story
use Rattle.site.specs.Story.{Story, Happening}
use Rattle.site.specs.declared.past.Note.{Note}
use Rattle.site.specs.declared.past.Note.TheVariants.{Did, Heard, Given}

-- all that was noted
abbrev pub told_of : Option (Snapshot Story) → Story
told_of None = []
told_of (Some s) = s.value

-- what is noted
abbrev pub happening_of : Note → Happening
happening_of (Did node event sends ended) = story.Did node event.value sends.value.sent ended.value
happening_of (Heard from e) = story.Heard from e.value
happening_of (Given e) = story.Given e.value
