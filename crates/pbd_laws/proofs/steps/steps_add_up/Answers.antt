use Rattle.pbd_laws.proofs.AddingSteps.{go-on, stop-there, second-answers, both-lead, first-stops, whole-done, whole-refused, grouped-alike}
use Rattle.pbd_laws.proofs.steps.steps_add_up.Goals as goal

pub returns : goal.returns
returns c = record {
  steps = go-on;
  stops = stop-there;
  answer = second-answers;
  world = both-lead;
  first_refused = first-stops;
  whole_done = whole-done;
  whole_refused = whole-refused;
  grouped = grouped-alike;
}
