use Rattle.std.proofs.Common.{◌≡◌, true, List, ap, sym, subst, ◌∙◌}
use Rattle.world_laws.specs.Worlds.{may_play, after_play, home_of}
use Rattle.world_code.specs.Clients.{ClientView}
use Rattle.world_code.specs.WorldView.{WorldView, world_of, IsWhole}
use Rattle.world_code.proofs.PlaySteps.{may_play_is, play_world, play_whole, code_list, code_region, code_base}
use Rattle.world_code.proofs.Views.{view_of}
use Rattle.world_code.proofs.world.World.add_play.Goals as goal

pub invariant_of-self : goal.invariant_of-self
invariant_of-self c =
    let i = c.self.inside in
    let old = view_of i in
    let client = c.args.client in
    let colour = c.args.colour in
    let w = c.self.invariant in
    let is_true = subst (λ (k : WorldView). may_play (world_of k) client colour ≡ true) (sym c.self.view_is)
    c.requires.may in
    let home_is = subst (λ (k : WorldView). home_of (world_of k) client ≡ c.args.home) (sym c.self.view_is)
    c.requires.home in
    let may = may_play_is old client colour is_true in
    let changed = code_list old w client colour may c.args.home home_is c.args.self.now c.self.view_is
    c.column-column.result.now c.column-column.ensures c.client.result.now c.index_mut.result.now c.play.new.self
    c.played-played.result c.cut-cut.result c.unplayed_stamp-stamp.result c.client.ensures c.played-played.ensures
    c.cut-cut.ensures c.unplayed_stamp-stamp.ensures c.index_mut.ensures.value c.play.ensures in
    subst (λ (cs : List ClientView). IsWhole (record old { clients = cs })) (sym changed)
    (play_whole old w client colour may is_true)

pub returns-clause-world : goal.returns-clause-world
returns-clause-world c =
    let i = c.self.inside in
    let old = view_of i in
    let client = c.args.client in
    let colour = c.args.colour in
    let w = c.self.invariant in
    let is_true = subst (λ (k : WorldView). may_play (world_of k) client colour ≡ true) (sym c.self.view_is)
    c.requires.may in
    let home_is = subst (λ (k : WorldView). home_of (world_of k) client ≡ c.args.home) (sym c.self.view_is)
    c.requires.home in
    let may = may_play_is old client colour is_true in
    let changed = code_list old w client colour may c.args.home home_is c.args.self.now c.self.view_is
    c.column-column.result.now c.column-column.ensures c.client.result.now c.index_mut.result.now c.play.new.self
    c.played-played.result c.cut-cut.result c.unplayed_stamp-stamp.result c.client.ensures c.played-played.ensures
    c.cut-cut.ensures c.unplayed_stamp-stamp.ensures c.index_mut.ensures.value c.play.ensures in
    ap (λ (cs : List ClientView). world_of (record old { clients = cs })) changed
    ∙ (play_world old w client colour may
    ∙ ap (λ (k : WorldView). after_play (world_of k) client colour) c.self.view_is)

pub unplayed_stamp-stamp-requires-clause-region : goal.unplayed_stamp-stamp-requires-clause-region
unplayed_stamp-stamp-requires-clause-region c =
    let i = c.self.inside in
    let old = view_of i in
    let client = c.args.client in
    let colour = c.args.colour in
    let is_true = subst (λ (k : WorldView). may_play (world_of k) client colour ≡ true) (sym c.self.view_is)
    c.requires.may in
    let home_is = subst (λ (k : WorldView). home_of (world_of k) client ≡ c.args.home) (sym c.self.view_is)
    c.requires.home in
    code_region old c.self.invariant client colour (may_play_is old client colour is_true) c.args.home home_is
    c.args.self.now c.self.view_is c.column-column.result.now c.column-column.ensures

pub unplayed_stamp-stamp-requires-clause-base : goal.unplayed_stamp-stamp-requires-clause-base
unplayed_stamp-stamp-requires-clause-base c =
    let i = c.self.inside in
    let old = view_of i in
    let client = c.args.client in
    let colour = c.args.colour in
    let is_true = subst (λ (k : WorldView). may_play (world_of k) client colour ≡ true) (sym c.self.view_is)
    c.requires.may in
    let home_is = subst (λ (k : WorldView). home_of (world_of k) client ≡ c.args.home) (sym c.self.view_is)
    c.requires.home in
    code_base old c.self.invariant client colour (may_play_is old client colour is_true) c.args.home home_is
    c.args.self.now c.self.view_is c.column-column.result.now c.column-column.ensures c.played-played.result
    c.client.result.now c.client.ensures c.played-played.ensures is_true
