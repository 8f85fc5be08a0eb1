-- Stores; how far steps move; how the code's steps follow the rules of the walk
pub mod Stores
pub mod Moves
pub mod CellRooms
pub mod Follow
pub mod Knowing
pub mod Onward
pub mod Refusals
-- Constants
pub mod ConstantValues
pub mod ConstantAhead
pub mod ReadConstant
pub mod ReadBy
pub mod ReadLabel
pub mod ReadLabels
-- Expressions
pub mod ExpressionItems
pub mod KindTables
pub mod KnownNames
pub mod OperandStack
pub mod ItemSteps
pub mod ItemPromises
pub mod ItemTags
pub mod ExpressionLoop
pub mod ExpressionPlaced
-- Statements
pub mod Slots
pub mod Marks
pub mod Along
pub mod Targets
pub mod Assignments
pub mod FirstCells
pub mod Rounds
pub mod StatementArms
pub mod Sooner
-- Declarations, and the whole walk
pub mod Initials
pub mod Enters
pub mod Declares
pub mod Closes
pub mod WalkNumbers
pub mod Clears
pub mod ParsedTree
pub mod WholeWalk
