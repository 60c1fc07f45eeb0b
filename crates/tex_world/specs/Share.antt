-- How do contracts see a tap's share of a plan?
use Rattle.tex_world.specs.TapPlan.{TapPlan}
use Rattle.tex_world.specs.declared.share.Share.{Share}

-- the entries in its fields
abbrev pub share_plan : Share → TapPlan
share_plan share = record {
  fail_calls = share.fail_calls.items;
  fail_bytes = share.fail_bytes.items;
  newest = share.newest.items;
  rises = share.rises.items;
  risen = share.risen.items;
}
