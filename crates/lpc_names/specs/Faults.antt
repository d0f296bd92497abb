-- The statuses of the faults.
use Rattle.lpc_base.specs.declared.status.Status.{Status}
use Rattle.lpc_base.specs.declared.status.TheConstants.{OBJECT_NAME_COLLISION, OBJECT_NAME_INVALID, OBJECT_NAME_NOT_FOUND, OBJECT_PATH_NOT_FOUND, OBJECT_PATH_SYNTAX_BAD}
use Rattle.lpc_names.specs.declared.fault.NameFault.{NameFault}
use Rattle.lpc_names.specs.declared.fault.NameFault.TheVariants.{PathSyntax, NameInvalid, PathNotFound, NameNotFound, Collision}

-- the status that a call answers for a fault
abbrev pub status_of : NameFault → Status
status_of PathSyntax = OBJECT_PATH_SYNTAX_BAD
status_of NameInvalid = OBJECT_NAME_INVALID
status_of PathNotFound = OBJECT_PATH_NOT_FOUND
status_of NameNotFound = OBJECT_NAME_NOT_FOUND
status_of Collision = OBJECT_NAME_COLLISION
