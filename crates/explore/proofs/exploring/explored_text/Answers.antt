use Rattle.explore.proofs.exploring.explored_text.Goals as goal

pub returns : goal.returns
returns g c = (c.in_ok-exploration.exploration, c.in_ok-exploration.ensures, c.in_ok-told.ensures)
