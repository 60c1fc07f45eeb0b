-- Each pair of numbers is in range if its test says so.
use Rattle.std.proofs.Common.{rules, refl}
use Rattle.supplied_client.proofs.request.TexLookup.are_in_range.Goals as goal

pub returns : goal.returns
returns c = (
  λ _. record {
    s = search rules;
    t = search rules;
    dsdx = search rules;
    dtdx = search rules;
    dsdy = search rules;
    dtdy = search rules;
  },
  λ _. refl,
)
