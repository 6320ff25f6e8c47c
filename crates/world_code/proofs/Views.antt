-- What a world is seen as while its fields are changed one by one.
use Rattle.world_code.specs.WorldView.{WorldView}
use Rattle.world_code.specs.declared.world.World.TheInside.{Inside}

abbrev pub view_of : Inside → WorldView
view_of i = record { shape = i.shape; clients = i.clients.items; board = i.board; columns = i.regions.items }
